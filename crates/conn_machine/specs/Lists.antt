-- A change of one item of a list.
use Rattle.std.specs.Prelude.{ℕ, zero, suc, List, [], ◌∷◌}

-- the list with the item of that place changed
abbrev pub update : {X : Type 0} → List X → ℕ → (X → X) → List X
update [] place change = []
update (x ∷ xs) zero change = change x ∷ xs
update (x ∷ xs) (suc place) change = x ∷ update xs place change
