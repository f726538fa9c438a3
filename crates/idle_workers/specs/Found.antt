-- What calls on idle words found and leave.
use Rattle.std.specs.Prelude.{◌≡◌, ◌≤◌, ℕ, ◌+◌, ◌-◌, ◌==◌, nat_lt, Bool, true, false, slice_index, [], ◌∷◌, None, Some}
use prog.Atomic.{either}
use Rattle.conn_machine.specs.Folds.{opening_record}
use Rattle.conn_machine.specs.Laws.{idle_in}
use Rattle.conn_machine.specs.Made.{AreMade, HasSeen}
use Rattle.conn_machine.specs.Runs.{after}
use Rattle.table_rule.specs.declared.view.View.{View}
use Rattle.table_rule.specs.Histories.{threads_of}
use Rattle.table_rule.specs.IdleWords.{bias}
use Rattle.table_rule.specs.Pasts.{MakesSteps, MakesStepOn}
use Rattle.table_rule.specs.Steps.{uncredited_view}
use Rattle.table_rule.specs.Views.{credited_view, seeing_view, with_permit}

-- a worker of the child was reserved, exactly where the step that tried found a number above the bias; it left one less. Else
-- another step left one more again, and nothing but the two steps changed
pub record ReservesPermit (child : ℕ) (old : View) (done : Bool) (new : View) : Type 0 where
  pub found : ℕ
  pub answer : done ≡ nat_lt bias found
  pub kept : done ≡ true → new ≡ record (with_permit (Some child) old) { past = new.past }
  pub tried : done ≡ true → MakesSteps ((child + 2, found, found - 1) ∷ []) old.past new.past
  pub left : done ≡ false → new ≡ record old { past = new.past }
  pub undone : done ≡ false
      → (again : ℕ)
      × MakesSteps ((child + 2, found, found - 1) ∷ (child + 2, again, again + 1) ∷ []) old.past
      new.past

-- the permit went, by one step, which left one more than it found
abbrev pub ReleasesPermit : ℕ → View → View → Type 0
ReleasesPermit child old new =
    (found : ℕ) × MakesStepOn (child + 2) found (found + 1) old (with_permit None old) new

-- the answer is the number that a step found, less the bias; the step changed nothing, but that the pass has seen the history of that
-- moment, which goes on from what it had seen by entries that others made as they may: behind it at least so many workers of the child
-- carry no connection
pub record FoundIdle (child : ℕ) (old : View) (count : ℕ) (new : View) : Type 0 where
  pub found : ℕ
  pub answer : count ≡ found - bias
  pub looked : MakesStepOn (child + 2) found found old (seeing_view new.seen old) new
  pub seen : HasSeen old.who.number old.seen new.seen
  pub made : AreMade old.origin.state (opening_record old.origin.passes) new.seen
  pub free : count ≤ idle_in (after old.origin.state new.seen) child

-- the child has the credit of so many workers, by one step, which left so many more than it found
abbrev pub GivesCredit : ℕ → ℕ → View → View → Type 0
GivesCredit child threads old new =
    (found : ℕ)
    × MakesStepOn (child + 2) found (found + threads) old (credited_view child threads old) new

-- the child lost its credit, exactly where a step found the bias and its workers, so that no permit and no try was out, and left
-- the bias; else it left what it found
pub record TakesCreditBack (child threads : ℕ) (old : View) (done : Bool)
    (new : View) : Type 0 where
  pub found : ℕ
  pub answer : done ≡ (found == bias + threads)
  pub tried : MakesStepOn (child + 2) found (either done bias found) old
      (uncredited_view done child old) new

-- the child may be given the credit of so many workers: the pass is the listener's, and has the turn; the child has no
-- credit, and so many workers in what the turn found
pub record MayCredit (v : View) (child threads : ℕ) : Type 0 where
  pub number : v.who.number ≡ 0
  pub none : slice_index v.credits child ≡ 0
  pub few : threads ≤ 64
  pub there : threads ≡ threads_of (after v.origin.state v.seen) child
