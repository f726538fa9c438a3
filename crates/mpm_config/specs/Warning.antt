-- What a correction tells.
use Rattle.std.specs.Prelude.{ℕ, List, ◌++◌, codes}
use Rattle.std.specs.Fmt.{decimal}

-- the number of a correction, the number before it and the number after it
pub record Notice : Type 0 where
  pub correction : ℕ
  pub before : ℕ
  pub after : ℕ

-- the line that tells it; the directive goes by the first spelling of its name
abbrev pub warning_bytes : List ℕ → ℕ → ℕ → List ℕ
warning_bytes name before after = codes "warning: " ++ name ++ codes " " ++ decimal before ++ codes " changed to " ++ decimal after ++ codes "\n"
