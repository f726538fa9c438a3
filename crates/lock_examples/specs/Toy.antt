-- A small value that keeps a history, and folds it.
use Rattle.std.specs.Prelude.{◌≡◌, ◌⊎◌, ◌<◌, ℕ, zero, suc, ◌+◌, ◌*◌, Bool, true, false, List, [], ◌∷◌, ◌++◌, length, Option, slice_index}
use Rattle.mpm_base.specs.declared.conn.ConnName.{ConnName}
use Rattle.mpm_base.specs.declared.conn.Kind.TheVariants.{Reading}
use Rattle.mpm_base.specs.declared.shape.Shape.{Shape}
use Rattle.conn_machine.specs.declared.event.Event.{Event}
use Rattle.conn_machine.specs.declared.event.Event.TheVariants as event
use Rattle.conn_machine.specs.declared.event.Reply.{Reply}
use Rattle.conn_machine.specs.declared.event.Reply.TheVariants.{Done, Took, Cell}
use Rattle.conn_machine.specs.declared.event.Entry.{Entry}
use Rattle.conn_machine.specs.declared.folded.Folded.{Folded}
use Rattle.conn_machine.specs.declared.kept.Ledger.{Ledger}
use Rattle.conn_machine.specs.declared.state.State.{State}
use Rattle.conn_machine.specs.Folds.{fold_of, opening_record}
use Rattle.conn_machine.specs.Runs.{after}
use Rattle.conn_machine.specs.States.{opening_state}
use Rattle.atomic_table.specs.Table.{Me}
use Rattle.table_rule.specs.declared.view.View.{View}
use Rattle.board_lock.specs.Passes.{IsFree}
use Rattle.lock_examples.specs.declared.stage.ToyStage.{ToyStage}
use Rattle.lock_examples.specs.declared.stage.ToyStage.TheVariants.{Starts, Takes, Signals, Serves}

-- a child has two workers
abbrev pub toy_shape : Shape
toy_shape =
    record {
      threads = 2;
      factor = 200;
      read_ms = 1000;
      keep_ms = 1000;
      keep = true;
      most = 1;
      target = 1;
      children = 1;
      whole_ms = 0;
    }

-- one slot and one child
abbrev pub toy_state : State
toy_state = opening_state 1 1 toy_shape

-- the one connection
abbrev pub toy_name : ConnName
toy_name = record { slot = 0; life = 0 }

-- ## Steps

-- the pass that makes a step: pass 1 serves, pass 0 does all else
abbrev pub maker : ToyStage → ℕ
maker Starts = 0
maker Takes = 0
maker Signals = 0
maker Serves = 1

-- what is done behind a step: once the connection waits, it is signalled and served in turn
abbrev pub next_stage : ToyStage → ToyStage
next_stage Starts = Takes
next_stage Takes = Signals
next_stage Signals = Serves
next_stage Serves = Signals

-- how often the connection was served, once the step was made
abbrev pub next_round : ToyStage → ℕ → ℕ
next_round Starts round = round
next_round Takes round = round
next_round Signals round = round
next_round Serves round = round + 1

-- an entry of a pass
abbrev pub entry_by : ℕ → ℕ → Event → Reply → Entry
entry_by p n e answer = record { pass = p; ordinal = n; event = e; reply = answer }

-- the entries of a step: the child starts; the connection is taken and waits; it is signalled; it is handed to a worker,
-- served, and waits again
abbrev pub step_entries : ToyStage → ℕ → List Entry
step_entries Starts round = entry_by 0 round (event.StartChild 0) Done ∷ []
step_entries Takes round =
    entry_by 0 (round + 1) (event.Accept 0) (Took toy_name 0 0)
    ∷ entry_by 0 (round + 2) (event.Park toy_name Reading) Done
    ∷ []
step_entries Signals round = entry_by 0 (round + 3) (event.Ready 0) Done ∷ []
step_entries Serves round =
    entry_by 1 (3 * round) (event.Queue toy_name) Done
    ∷ entry_by 1 (3 * round + 1) (event.Start toy_name) (Cell 0)
    ∷ entry_by 1 (3 * round + 2) (event.Park toy_name Reading) Done
    ∷ []

-- what is done in the step of that number
abbrev pub stage_at : ℕ → ToyStage
stage_at zero = Starts
stage_at (suc n) = next_stage (stage_at n)

-- how often the connection was served before the step of that number
abbrev pub round_at : ℕ → ℕ
round_at zero = 0
round_at (suc n) = next_round (stage_at n) (round_at n)

-- the entries of the step of that number
abbrev pub step_of : ℕ → List Entry
step_of n = step_entries (stage_at n) (round_at n)

-- the entries of the first so many steps
abbrev pub first_of : ℕ → List Entry
first_of zero = []
first_of (suc n) = first_of n ++ step_of n

-- the entries of so many steps, the first of which has that number
abbrev pub entries_from : ℕ → ℕ → List Entry
entries_from n zero = []
entries_from n (suc m) = entries_from n m ++ step_of (n + m)

-- ## The value

-- a value that folded so many steps, and keeps so many, for so many passes
pub record SeenToy : Type 0 where
  pub folded : ℕ
  pub count : ℕ
  pub passes : ℕ

-- what is known of so many folded steps
abbrev pub toy_record : ℕ → ℕ → Folded
toy_record folded passes = fold_of toy_state (first_of folded) [] (opening_record passes)

-- what it tells
abbrev pub toy_ledger : SeenToy → Ledger
toy_ledger t =
    record {
      base = after toy_state (first_of t.folded);
      folded = toy_record t.folded t.passes;
      history = entries_from t.folded t.count;
      texts = [];
      passes = t.passes;
    }

-- nothing is folded before the connection was taken
abbrev pub KeepsOpening : SeenToy → Type 0
KeepsOpening t = t.folded + t.count < 2 → t.folded ≡ 0

-- the pass made the next step, or nothing changed
abbrev pub MakesStep : ℕ → SeenToy → Bool → SeenToy → Type 0
MakesStep p old true new =
    (maker (stage_at (old.folded + old.count)) ≡ p) × (new ≡ record old { count = old.count + 1 })
MakesStep p old false new = new ≡ old

-- all steps are folded, or nothing changed
abbrev pub Folds : SeenToy → SeenToy → Type 0
Folds old new = (new ≡ old) ⊎ (new ≡ record old { folded = old.folded + old.count; count = 0 })

-- a step may have been made, then all folded, and then a step made behind that
abbrev pub FoldsBetween : ℕ → SeenToy → SeenToy → Type 0
FoldsBetween p old new =
    (one two : SeenToy) × (before behind : Bool) × MakesStep p old before one × Folds one two
    × MakesStep p two behind new

-- a pass of a new lock with the value: it has nothing, nothing was folded, and no child has a credit
pub record IsReadyPass {K : Type 0} (me : Me (Option K) View) : Type 0 where
  pub free : IsFree me
  pub credits : slice_index me.0.credits 0 ≡ 0
  pub room : me.0.who.number ≡ 0 → 0 < length me.0.credits
