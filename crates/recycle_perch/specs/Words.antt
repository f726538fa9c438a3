-- The word of a place, its rule, the steps on it, and what its marks know of them.
use Rattle.std.specs.Prelude.{◌≡◌, ◌==◌, ◌&&◌, ◌⊎◌, ℕ, ◌+◌, List, [], ◌∷◌, ⊤, count_by, length, map}
use mathlib.Core.Option.{some}
use lib.ListN.{get_elem?}
use Rattle.table_rule.specs.declared.trail.Step.{Step}
use Rattle.table_rule.specs.Trails.{AreNumbered, AreOfMakers, GoesOn, steps_by}

-- the number that a step found, and the one that it left
abbrev pub deed : Step → ℕ × ℕ
deed step = (step.found, step.leaves)

-- what these steps did
abbrev pub deeds : List Step → List (ℕ × ℕ)
deeds steps = map deed steps

-- a step found no carrier, and left none
abbrev pub took_none : ℕ × ℕ
took_none = (0, 0)

-- a step found a carrier, and left none
abbrev pub took_one : ℕ × ℕ
took_one = (2, 0)

-- a step found no carrier, and left one
abbrev pub laid_one : ℕ × ℕ
laid_one = (0, 2)

-- a step found a carrier, and left it
abbrev pub laid_none : ℕ × ℕ
laid_none = (2, 2)

-- how many of these steps did so
abbrev pub count_of : ℕ × ℕ → List Step → ℕ
count_of d steps = count_by (λ (step : Step). step.found == d.0 && step.leaves == d.1) steps

-- how many steps that these marks know did so
abbrev pub known_of : ℕ × ℕ → List (List Step) → ℕ
known_of d [] = 0
known_of d (view ∷ views) = count_of d view + known_of d views

-- ## The rule

-- a number that the word of a place may be: 2 while a carrier rests there, and else 0
abbrev pub IsRestNumber : ℕ → Type 0
IsRestNumber word = (word ≡ 0) ⊎ (word ≡ 2)

-- each step left a number that the word may be
abbrev pub LeaveRests : List Step → Type 0
LeaveRests [] = ⊤
LeaveRests (step ∷ steps) = IsRestNumber step.leaves × LeaveRests steps

-- the rule of a place: its word is what the last of all steps left, and each mark knows the steps that were made with it
pub record IsRestWord (word : ℕ) (views : List (List Step)) : Type 0 where
  pub trail : List Step
  pub goes_on : GoesOn 0 trail word
  pub rests : LeaveRests trail
  pub numbered : AreNumbered 0 trail
  pub of_marks : AreOfMakers (length views) trail
  pub known : (mark : ℕ) (view : List Step)
      → get_elem? views mark ≡ some view
      → view ≡ steps_by mark trail
