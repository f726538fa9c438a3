-- Where a name stands last among others.
use Rattle.std.specs.Prelude.{◌≡◌, ℕ, ◌<◌, true, false, List, [], Option, None, Some, bytes_eq, slice_index_or}

-- the last of the first so many places at which the name stands among the names, if there is one
abbrev pub IsLastBelow : List ℕ → ℕ → List (List ℕ) → Option ℕ → Type 0
IsLastBelow name bound names None = (k : ℕ) → k < bound → bytes_eq name (slice_index_or names k []) ≡ false
IsLastBelow name bound names (Some place) =
    (place < bound) × (bytes_eq name (slice_index_or names place []) ≡ true)
    × ((k : ℕ) → place < k → k < bound → bytes_eq name (slice_index_or names k []) ≡ false)
