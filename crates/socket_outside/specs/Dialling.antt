-- What a command is answered over its connection.
use Rattle.std.specs.Prelude.{◌≡◌, ℕ, List, ◌++◌, Option, take}
use Rattle.std.specs.Io.KnownBytes.{Consumes}
use Rattle.mpm_base.specs.GivenAnswers.{most_answer}

-- what came stands behind the answer, as far as that has 512 bytes, where it is known what there was to read
abbrev pub ReadsOn : Option (List ℕ) → Option (List ℕ) → List ℕ → List ℕ → Type 0
ReadsOn left left' answer answer' = (came : List ℕ) × Consumes left left' came × (answer' ≡ take most_answer (answer ++ came))

-- the answer is the first 512 bytes of all that was read
abbrev pub ReadsOut : Option (List ℕ) → Option (List ℕ) → List ℕ → Type 0
ReadsOut left left' answer = (came : List ℕ) × Consumes left left' came × (answer ≡ take most_answer came)
