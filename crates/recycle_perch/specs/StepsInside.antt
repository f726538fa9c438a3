-- What a step on the word of a place tells who made it.
use Rattle.std.specs.Prelude.{◌≡◌, ◌==◌, ℕ, List, [], ◌∷◌, ◌++◌}
use prog.Atomic.{either}
use Rattle.table_rule.specs.declared.trail.Step.{Step}
use Rattle.recycle_perch.specs.Words.{deeds}
use Rattle.recycle_perch.specs.Words.{IsRestNumber}

-- a step is put behind those before it, which found this number and left that one
abbrev pub AddsStep : ℕ → ℕ → List Step → List Step → Type 0
AddsStep found left before after =
    (deeds after ≡ deeds before ++ (found, left) ∷ []) × IsRestNumber found

-- a step writes the number, whatever it found
abbrev pub Takes : ℕ → ℕ → List Step → ℕ → List Step → Type 0
Takes expected new before found after = AddsStep found new before after

-- a step writes the number where it found the one that is expected
abbrev pub LaysDown : ℕ → ℕ → List Step → ℕ → List Step → Type 0
LaysDown expected new before found after =
    AddsStep found (either (found == expected) new found) before after
