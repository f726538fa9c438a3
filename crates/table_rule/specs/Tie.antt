-- The rule: what holds of the table between any two steps.
use Rattle.std.specs.Prelude.{◌≡◌, ◌⊎◌, ℕ, ◌+◌, ◌*◌, ◌≤◌, ◌<◌, false, List, [], ◌∷◌, length, Option, None, Some, slice_index}
use mathlib.Core.Option as m
use lib.ListN.{get_elem?}
use Rattle.atomic_table.specs.Table.{State}
use Rattle.conn_machine.specs.declared.event.Entry.{Entry}
use Rattle.conn_machine.specs.declared.kept.Ledger.{Ledger}
use Rattle.conn_machine.specs.Folds.{opening_record}
use Rattle.conn_machine.specs.Runs.{AllAt, after, entries_of, row_of}
use Rattle.table_rule.specs.declared.view.Draws.{Draws}
use Rattle.table_rule.specs.declared.view.LastLeft.{LastLeft}
use Rattle.table_rule.specs.declared.view.Origin.{Origin}
use Rattle.table_rule.specs.declared.view.View.{View}
use Rattle.conn_machine.specs.Made.{AreMade, HasSeen, IsOpened}
use Rattle.table_rule.specs.Histories.{Extends, IsQueuedInTime}
use Rattle.table_rule.specs.Ledgers.{IsSplit}
use Rattle.table_rule.specs.IdleWords.{bias, bit, AreIdleWords}
use Rattle.table_rule.specs.Pasts.{AreIdleSteps}

-- where the history of a value that was just made begins
abbrev pub origin_of : Ledger → Origin
origin_of l = record { state = l.base; passes = l.passes }

-- a value may be put into a table: it is in its opening state, for 1 to 4,099 passes, and was never folded
pub record IsNew (l : Ledger) : Type 0 where
  pub opened : IsOpened l.base
  pub some : 1 ≤ l.passes
  pub few : l.passes ≤ 4099
  pub history : l.history ≡ []
  pub texts : l.texts ≡ []
  pub folded : l.folded ≡ opening_record l.passes

-- the words at the start: the turn is free, pass 0 is there, and no child has workers
pub record AreFirstWords (words : List ℕ) : Type 0 where
  pub count : length words ≡ 34
  pub turn : slice_index words 0 ≡ 0
  pub passes : slice_index words 1 ≡ 1
  pub idle : (k : ℕ) → k < 32 → slice_index words (k + 2) ≡ bias

-- one view and the history: its number is its place; it has seen a beginning, behind which it made no entry, where it does not
-- rest; and it has the connection that its entries gave it last
pub record IsViewOf (origin : Origin) (history : List Entry) (id : ℕ) (v : View) : Type 0 where
  pub number : v.who.number ≡ id
  pub origin_is : v.who.resting ≡ false → v.origin ≡ origin
  pub begins : Extends v.seen history
  pub seen : v.who.resting ≡ false → HasSeen id v.seen history
  pub row : v.row ≡ row_of id history

-- the value is at home, and nobody has the turn
pub record KeptIsHome {K : Type 0} (ledger : K → Ledger) (origin : Origin) (left : LastLeft)
    (history : List Entry) (s : State (Option K) View) : Type 0 where
  pub kept : K
  pub home : s.homes ≡ m.some (Some kept) ∷ []
  pub parts : IsSplit origin left (ledger kept) history
  pub word : slice_index s.words 0 ≡ 2 * length history
  pub none_has : (id : ℕ) (v : View) → get_elem? s.views id ≡ m.some v → v.turn ≡ None

-- the value is out with the one pass that has the turn, which has seen all
pub record KeptIsOut {K : Type 0} (origin : Origin) (left : LastLeft) (history : List Entry)
    (s : State (Option K) View) : Type 0 where
  pub holder : ℕ
  pub view : View
  pub at : get_elem? s.views holder ≡ m.some view
  pub found : Ledger
  pub has : view.turn ≡ Some found
  pub seen : view.seen ≡ history
  pub home : s.homes ≡ m.none ∷ []
  pub parts : IsSplit origin left found history
  pub word : slice_index s.words 0 ≡ 2 * length history + 1
  pub one_has : (id : ℕ) (v : View) (got : Ledger)
      → get_elem? s.views id ≡ m.some v
      → v.turn ≡ Some got
      → id ≡ holder

-- the numbers below the next one were drawn, and each has its view, but for a spare one
pub record AreDrawn (origin : Origin) (words : List ℕ) (views : List View)
    (draws : Draws) : Type 0 where
  pub word : slice_index words 1 ≡ draws.next
  pub views_are : length views + bit draws.spare ≡ draws.next
  pub few : draws.next ≤ origin.passes

-- there is one history, made by passes as they may, in which each connection was handed to workers before its deadline; the value is at home or out; each view fits; and the idle words are
-- what they ought to be, and what the steps on them left, of which each pass knows its own
pub record IsTied {K : Type 0} (ledger : K → Ledger) (opened : Ledger)
    (s : State (Option K) View) : Type 0 where
  pub history : List Entry
  pub opening : IsOpened opened.base
  pub few : opened.passes ≤ 4099
  pub count : length s.words ≡ 34
  pub made : AreMade opened.base (opening_record opened.passes) history
  pub queued : AllAt IsQueuedInTime opened.base history
  pub undrawn : (n : ℕ) → length s.views ≤ n → entries_of n history ≡ []
  pub fits : (id : ℕ) (v : View)
      → get_elem? s.views id ≡ m.some v
      → IsViewOf (origin_of opened) history id v
  pub first : View
  pub at : get_elem? s.views 0 ≡ m.some first
  pub place : KeptIsHome ledger (origin_of opened) first.left history s
      ⊎ KeptIsOut (origin_of opened) first.left history s
  pub drawn : AreDrawn (origin_of opened) s.words s.views first.draws
  pub idle : AreIdleWords (after opened.base history) s.words s.views first.credits
  pub steps : AreIdleSteps s.words s.views (length history)
