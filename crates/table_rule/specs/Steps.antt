-- What each kind of step tells the pass that makes it.
-- Why it is so stands in docs/DECISIONS.md: 65, What is one turn's fold.
use Rattle.std.specs.Prelude.{◌≡◌, ◌≤◌, ℕ, ◌+◌, ◌-◌, ◌/◌, ◌==◌, Bool, true, false, List, [], ◌∷◌, length, nat_lt, Option, None, Some}
use prog.Atomic.{either}
use Rattle.atomic_table.specs.Table.{Step, Me}
use Rattle.conn_machine.specs.declared.event.Entry.{Entry}
use Rattle.conn_machine.specs.declared.kept.Ledger.{Ledger}
use Rattle.conn_machine.specs.Folds.{opening_record}
use Rattle.conn_machine.specs.Laws.{idle_in}
use Rattle.conn_machine.specs.Made.{AreMade, HasSeen}
use Rattle.conn_machine.specs.Runs.{Adds, after, row_of}
use Rattle.table_rule.specs.declared.view.LastLeft.{LastLeft}
use Rattle.table_rule.specs.declared.view.Origin.{Origin}
use Rattle.table_rule.specs.declared.view.View.{View}
use Rattle.table_rule.specs.Ledgers.{EndsTurn, IsLastLeft}
use Rattle.table_rule.specs.Views.{IsFound, taken_view, given_view, drawn_view, resting_view, seeing_view, woken_view, with_permit, with_try, credited_view}
use Rattle.table_rule.specs.IdleWords.{bias}
use Rattle.table_rule.specs.Pasts.{MakesStepOn}

module _ {K : Type 0} (ledger : K → Ledger) where
  -- the turn was taken, with the value; or nothing changed
  abbrev pub IsTurnTaken : Bool → Me (Option K) View → Me (Option K) View → Type 0
  IsTurnTaken true v w =
      (kept : K) × (history : List Entry) × (w.1 ≡ (0, Some kept) ∷ []) × (w.0 ≡ taken_view v.0 (ledger kept) history)
      × IsFound v.0 (ledger kept) history
  IsTurnTaken false v w = w ≡ v

  -- the turn is taken where the word was the one that was expected
  abbrev pub TakesTurn : Step (Option K) → Me (Option K) View → ℕ → Me (Option K) View → Type 0
  TakesTurn s v found w = IsTurnTaken (found == s.first) v w

  -- the value in hand is at home again, and what was added to the value that the turn found is in the history
  abbrev pub GivesBack : Step (Option K) → Me (Option K) View → ℕ → Me (Option K) View → Type 0
  GivesBack s v found w =
      (kept : K) × (history : List Entry) × (left : LastLeft) × (v.1 ≡ (0, Some kept) ∷ []) × (w.1 ≡ [])
      × (w.0 ≡ given_view v.0 history left) × Adds v.0.who.number v.0.origin.state (opening_record v.0.origin.passes) v.0.seen history
      × EndsTurn v.0 (ledger kept) history × IsLastLeft v.0 (ledger kept) history left

-- pass 0 drew the number that it knew to be the next
abbrev pub DrawsNext : {K : Type 0} → Step (Option K) → Me (Option K) View → ℕ → Me (Option K) View
    → Type 0
DrawsNext s v found w = (found ≡ v.0.draws.next) × (w.1 ≡ v.1) × (w.0 ≡ drawn_view v.0)

-- the pass rests, and knows nothing any more but its number
abbrev pub LiesDown : {K : Type 0} → Step (Option K) → Me (Option K) View → ℕ → Me (Option K) View
    → Type 0
LiesDown s v found w = (w.1 ≡ v.1) × (w.0 ≡ resting_view v.0.who.number)

-- the pass rests no more: it has nothing, and knows its number, the look at the turn word with which it woke up, and the history that
-- it has seen, in which it has no connection, and of which that word had twice the length, or one more
abbrev pub WakesUp : {K : Type 0} → Step (Option K) → Me (Option K) View → ℕ → Me (Option K) View
    → Type 0
WakesUp s v found w =
    (w.1 ≡ v.1)
    × ((origin : Origin) × (seen : List Entry) × (since : ℕ)
    × (w.0 ≡ woken_view origin v.0.who.number seen since found)
    × (found / 2 ≡ length seen)
    × AreMade origin.state (opening_record origin.passes) seen
    × (row_of v.0.who.number seen ≡ None))

-- a permit of the child, or a try to undo
abbrev pub tried_view : Bool → ℕ → View → View
tried_view true k v = with_permit (Some k) v
tried_view false k v = with_try (Some k) v

-- a permit where the word was above the bias; the word's number is the child's and 2
abbrev pub TriesForPermit : {K : Type 0} → Step (Option K) → Me (Option K) View → ℕ
    → Me (Option K) View → Type 0
TriesForPermit s v found w =
    (w.1 ≡ v.1)
    × MakesStepOn s.word found (found - 1) v.0 (tried_view (nat_lt bias found) (s.word - 2) v.0) w.0

-- the try is undone
abbrev pub Undoes : {K : Type 0} → Step (Option K) → Me (Option K) View → ℕ → Me (Option K) View
    → Type 0
Undoes s v found w = (w.1 ≡ v.1) × MakesStepOn s.word found (found + 1) v.0 (with_try None v.0) w.0

-- the permit is given back
abbrev pub Releases : {K : Type 0} → Step (Option K) → Me (Option K) View → ℕ → Me (Option K) View
    → Type 0
Releases s v found w =
    (w.1 ≡ v.1) × MakesStepOn s.word found (found + 1) v.0 (with_permit None v.0) w.0

-- the child has the credit that was added
abbrev pub AddsCredit : {K : Type 0} → Step (Option K) → Me (Option K) View → ℕ → Me (Option K) View
    → Type 0
AddsCredit s v found w =
    (w.1 ≡ v.1)
    × MakesStepOn s.word found (found + s.first) v.0 (credited_view (s.word - 2) s.first v.0) w.0

-- the child's credit went, or stayed
abbrev pub uncredited_view : Bool → ℕ → View → View
uncredited_view true k v = credited_view k 0 v
uncredited_view false k v = v

-- the credit goes where the word was the one that was expected
abbrev pub DropsCredit : {K : Type 0} → Step (Option K) → Me (Option K) View → ℕ
    → Me (Option K) View → Type 0
DropsCredit s v found w =
    (w.1 ≡ v.1)
    × MakesStepOn s.word found (either (found == s.first) s.second found) v.0
    (uncredited_view (found == s.first) (s.word - 2) v.0) w.0

-- nothing changed but that the step was made, and that the pass has seen a history that goes on from what it had seen by entries of
-- others; behind it at least as many workers of the child carry nothing as the word is above the bias, which are 64 at most
abbrev pub LooksAtIdle : {K : Type 0} → Step (Option K) → Me (Option K) View → ℕ
    → Me (Option K) View → Type 0
LooksAtIdle s v found w =
    (w.1 ≡ v.1) × (found - bias ≤ 64)
    × ((history : List Entry) × MakesStepOn s.word found found v.0 (seeing_view history v.0) w.0
    × HasSeen v.0.who.number v.0.seen history
    × AreMade v.0.origin.state (opening_record v.0.origin.passes) history
    × (found - bias ≤ idle_in (after v.0.origin.state history) (s.word - 2)))
