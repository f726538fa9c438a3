-- Slots in rings as their callers see them: of each slot the number of the ring in which it stands, or None.
use Rattle.std.specs.Prelude.{◌≡◌, ℕ, List, Option, Some, None, slice_get, replicate}

-- so many slots, none of which stands in a ring
abbrev pub none_filed : ℕ → List (Option ℕ)
none_filed n = replicate n None

-- the slot stands in the ring of that number
abbrev pub StandsIn : List (Option ℕ) → ℕ → ℕ → Type 0
StandsIn slots ring slot = slice_get slots slot ≡ Some (Some ring)
