-- Texts in which the case of letters doesn't count.
use Rattle.std.specs.Prelude.{ℕ, Bool, List, map}
use Rattle.std.specs.Str.{bytes_eq}
use Rattle.std.specs.Char.{to_ascii_lowercase}

-- the texts are the same but for the case of ASCII letters
abbrev pub is_same_ignoring_case : List ℕ → List ℕ → Bool
is_same_ignoring_case text other = bytes_eq (map to_ascii_lowercase text) (map to_ascii_lowercase other)
