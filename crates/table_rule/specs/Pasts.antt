-- What passes know of the steps on idle words, and of the looks with which they woke up.
use Rattle.std.specs.Prelude.{◌≡◌, ℕ, ◌+◌, ◌/◌, ◌≤◌, ◌<◌, true, false, List, [], ◌∷◌, ◌++◌, length, map, slice_index}
use mathlib.Core.Option as m
use lib.ListN.{get_elem?}
use Rattle.table_rule.specs.declared.trail.Step.{Step}
use Rattle.table_rule.specs.declared.view.Past.{Past}
use Rattle.table_rule.specs.declared.view.View.{View}
use Rattle.table_rule.specs.IdleWords.{bias}
use Rattle.table_rule.specs.Trails.{AreNumbered, AreOfMakers, GoesOn, steps_by, steps_on, steps_since}

-- ## The rule of the steps

-- a pass knows each step of the trail that it made since it rested last; one that rests knows none
pub record KnowsPast (trail : List Step) (id : ℕ) (v : View) : Type 0 where
  pub since : v.past.since ≤ length trail
  pub up : v.who.resting ≡ false → v.past.steps ≡ steps_since v.past.since (steps_by id trail)
  pub rests : v.who.resting ≡ true → v.past.steps ≡ []

-- half of what each of these found is no less than half of what the one before it found, from this number on, and none of them is
-- above that one
abbrev pub LookInOrder : ℕ → List Step → ℕ → Type 0
LookInOrder least [] most = least ≤ most
LookInOrder least (step ∷ steps) most =
    (least ≤ step.found / 2) × LookInOrder (step.found / 2) steps most

-- there is one trail of steps on idle words and of looks at the turn word by passes that woke up, each made by a pass: on each idle word
-- they go on from the bias to what stands there; half of what the looks found are lengths of the history, in order, of which this is the
-- present one; all are numbered from 0 on, and each pass knows its own
pub record AreIdleSteps (words : List ℕ) (views : List View) (entries : ℕ) : Type 0 where
  pub trail : List Step
  pub goes_on : (k : ℕ) → k < 32 → GoesOn bias (steps_on (k + 2) trail) (slice_index words (k + 2))
  pub looked : LookInOrder 0 (steps_on 0 trail) entries
  pub numbered : AreNumbered 0 trail
  pub of_views : AreOfMakers (length views) trail
  pub known : (id : ℕ) (v : View) → get_elem? views id ≡ m.some v → KnowsPast trail id v

-- ## What a step did

-- the word of a step, the number that it found, and the one that it left
abbrev pub move_of : Step → ℕ × ℕ × ℕ
move_of step = (step.word, step.found, step.leaves)

-- the same of these steps
abbrev pub moves_of : List Step → List (ℕ × ℕ × ℕ)
moves_of steps = map move_of steps

-- the pass made these steps more
abbrev pub MakesSteps : List (ℕ × ℕ × ℕ) → Past → Past → Type 0
MakesSteps moves before after =
    (after.since ≡ before.since) × (moves_of after.steps ≡ moves_of before.steps ++ moves)

-- the pass made one step more on that word, which found this number and left that one; else it became as the second view
abbrev pub MakesStepOn : ℕ → ℕ → ℕ → View → View → View → Type 0
MakesStepOn word found left before changed after =
    (after ≡ record changed { past = after.past })
    × MakesSteps ((word, found, left) ∷ []) before.past after.past
