-- How far the reading of a file came.
use Rattle.std.specs.Prelude.{◌≡◌, ℕ, ◌+◌, ◌≤◌, List, ◌++◌, length, Option, Some, None, ⊤}

-- after so many bytes were taken: they are what was kept as long as they are few, and what is left follows them
abbrev pub HasTakenBytes : Option (List ℕ) → Option (List ℕ) → List ℕ → ℕ → ℕ → Type 0
HasTakenBytes None now bytes size most = ⊤
HasTakenBytes (Some all) None bytes size most = ⊥
HasTakenBytes (Some all) (Some rest) bytes size most =
    (length all ≡ size + length rest) × (size ≤ most → all ≡ bytes ++ rest)
