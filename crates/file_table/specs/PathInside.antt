-- Names that are put together segment by segment.
use Rattle.std.specs.Prelude.{ℕ, ◌==◌, List, ◌∷◌, ◌++◌, length, if◌then◌else◌}

-- a name with a further segment
abbrev pub further_name : List ℕ → List ℕ → List ℕ
further_name name segment = if length name == 0 then segment else name ++ 47 ∷ segment
