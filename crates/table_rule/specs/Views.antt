-- The views of passes, and how steps change them.
-- Why it is so stands in docs/DECISIONS.md: 70, What a pass knows of folded entries; 102, What a turn teaches.
use Rattle.std.specs.Prelude.{◌≡◌, ◌<◌, ℕ, ◌+◌, ◌-◌, true, false, List, [], ◌∷◌, Option, None, Some, IfSome, replicate, slice_get, slice_set}
use Rattle.conn_machine.specs.declared.event.Entry.{Entry}
use Rattle.conn_machine.specs.declared.kept.Ledger.{Ledger}
use Rattle.conn_machine.specs.declared.state.State.{State}
use Rattle.conn_machine.specs.Rows.{carried_count}
use Rattle.conn_machine.specs.Children.{no_shape}
use Rattle.conn_machine.specs.States.{opening_state}
use Rattle.conn_machine.specs.Runs.{AllAt, after, row_of}
use Rattle.conn_machine.specs.Folds.{opening_record}
use Rattle.table_rule.specs.declared.trail.Step.{Step}
use Rattle.table_rule.specs.declared.view.Hand.{Hand}
use Rattle.table_rule.specs.declared.view.LastLeft.{LastLeft}
use Rattle.table_rule.specs.declared.view.Origin.{Origin}
use Rattle.table_rule.specs.declared.view.Past.{Past}
use Rattle.table_rule.specs.declared.view.View.{View}
use Rattle.conn_machine.specs.Made.{AreMade, AreOfPasses, HasSeen}
use Rattle.table_rule.specs.Histories.{IsQueuedInTime, threads_of}
use Rattle.table_rule.specs.Ledgers.{IsSplit}

-- ## Views

-- neither a permit nor a try
abbrev pub empty_hand : Hand
empty_hand = record { permit = None; trying = None }

-- no step on an idle word
abbrev pub new_past : Past
new_past = record { since = 0; steps = [] }

-- nothing was folded yet, and no text left
abbrev pub nothing_left : Origin → LastLeft
nothing_left origin = record { entries = []; folded = opening_record origin.passes; texts = [] }

-- nothing is known of where the history begins
abbrev pub no_origin : Origin
no_origin = record { state = opening_state 0 0 no_shape; passes = 0 }

-- a pass that rests knows its number alone
abbrev pub resting_view : ℕ → View
resting_view p =
    record {
      origin = no_origin;
      who = record { number = p; resting = true };
      seen = [];
      turn = None;
      row = None;
      hand = empty_hand;
      past = new_past;
      left = nothing_left no_origin;
      credits = [];
      draws = record { next = 0; spare = false };
    }

-- a pass other than pass 0 that has nothing, and has seen this history
abbrev pub free_view : Origin → ℕ → List Entry → View
free_view origin p seen =
    record (resting_view p) {
      origin = origin;
      who = record { number = p; resting = false };
      seen = seen;
      left = nothing_left origin;
    }

-- the look at the turn word with which a pass woke up, where so many steps stand before it, and which found this number
abbrev pub waking_step : ℕ → ℕ → ℕ → Step
waking_step p since found =
    record { word = 0; at = since; by = p; found = found; leaves = found }

-- a pass that woke up, and since made no other step than that look
abbrev pub woken_view : Origin → ℕ → List Entry → ℕ → ℕ → View
woken_view origin p seen since found =
    record (free_view origin p seen)
    { past = record { since = since; steps = waking_step p since found ∷ [] } }

-- pass 0 before it did anything, when it has drawn the numbers below this one
abbrev pub first_view : Origin → ℕ → View
first_view origin next =
    record (free_view origin 0 [])
    { credits = replicate 32 0; draws = record { next = next; spare = false } }

-- ## What is said of one

-- the pass does not rest
abbrev pub IsAwake : View → Type 0
IsAwake v = v.who.resting ≡ false

-- the pass has no turn, no permit, no try and no connection
pub record IsIdle (v : View) : Type 0 where
  pub turn : v.turn ≡ None
  pub hand : v.hand ≡ empty_hand
  pub row : v.row ≡ None

-- where the pass has a connection, its row is in this history as in what the pass had seen
abbrev pub RowStays : View → List Entry → Type 0
RowStays v history =
    IfSome v.row
    (λ name. slice_get (after v.origin.state history).rows name.slot
    ≡ slice_get (after v.origin.state v.seen).rows name.slot)

-- where the pass has a permit and no connection, fewer than all workers of that child carry one
abbrev pub HasFreeWorker : View → State → Type 0
HasFreeWorker v s =
    v.row ≡ None → IfSome v.hand.permit (λ k. carried_count s.rows k < threads_of s k)

-- what a pass finds that takes the turn: the value, and its history from the origin on, of entries of as many passes as there may
-- be
pub record IsFound (v : View) (found : Ledger) (history : List Entry) : Type 0 where
  pub seen : HasSeen v.who.number v.seen history
  pub made : AreMade v.origin.state (opening_record v.origin.passes) history
  pub queued : AllAt IsQueuedInTime v.origin.state history
  pub few : AreOfPasses v.origin.passes history
  pub number : v.who.number < v.origin.passes
  pub left : LastLeft
  pub parts : IsSplit v.origin left found history
  pub own : v.who.number ≡ 0 → left ≡ v.left
  pub row : RowStays v history
  pub row_is : v.row ≡ row_of v.who.number v.seen
  pub room : HasFreeWorker v (after v.origin.state history)

-- ## What steps make of one

-- it saw this history
abbrev pub seeing_view : List Entry → View → View
seeing_view history v = record v { seen = history }

-- it took the turn, and found this
abbrev pub taken_view : View → Ledger → List Entry → View
taken_view v found history = record v { turn = Some found; seen = history }

-- it gave the turn back, and left this
abbrev pub given_view : View → List Entry → LastLeft → View
given_view v history left =
    record v { turn = None; seen = history; row = row_of v.who.number history; left = left }

-- it drew the next number
abbrev pub drawn_view : View → View
drawn_view v = record v { draws = record { next = v.draws.next + 1; spare = true } }

-- it gave the last number to a new pass
abbrev pub parted_view : View → View
parted_view v = record v { draws = record v.draws { spare = false } }

-- the new pass
abbrev pub new_view : View → View
new_view v = free_view v.origin (v.draws.next - 1) v.seen

-- the view with a permit of that child
abbrev pub with_permit : Option ℕ → View → View
with_permit permit v = record v { hand = record v.hand { permit = permit } }

-- the view that tries for a permit of that child
abbrev pub with_try : Option ℕ → View → View
with_try trying v = record v { hand = record v.hand { trying = trying } }

-- the child has this credit
abbrev pub credited_view : ℕ → ℕ → View → View
credited_view k threads v = record v { credits = slice_set v.credits k threads }
