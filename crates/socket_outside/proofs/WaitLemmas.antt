-- A wait that gives no slot gives none twice.
use Rattle.std.proofs.Common.{◌≡◌, ℕ, ◌==◌, List, [], ◌∷◌}
use Rattle.std.specs.List.{IsDistinct}

pub distinct_none : (xs : List ℕ) → xs ≡ [] → IsDistinct (λ a b. a == b) xs
unfolding IsDistinct
distinct_none [] h = tt
distinct_none (y ∷ ys) h = absurd (cc)
