-- Where a name stands among others.
use Rattle.std.specs.Prelude.{◌≡◌, ℕ, ◌<◌, true, List, [], Option, length, bytes_eq, slice_index_or}
use Rattle.std.specs.List.{position}

-- the place of the first of the names that is this one, from 0
abbrev pub line_place : List ℕ → List (List ℕ) → Option ℕ
line_place name names = position (λ other. bytes_eq other name) names

-- the name at that place is this one
pub record IsNamedAt (name : List ℕ) (place : ℕ) (names : List (List ℕ)) : Type 0 where
  pub within : place < length names
  pub same : bytes_eq name (slice_index_or names place []) ≡ true
