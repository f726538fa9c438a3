-- How a kept value and what was folded make up one history, and what a turn makes of a value.
use Rattle.std.specs.Prelude.{◌≡◌, ◌≢◌, ◌⊎◌, ◌<◌, ℕ, List, [], ◌++◌, length, slice_index, Some}
use Rattle.conn_machine.specs.declared.event.Entry.{Entry}
use Rattle.conn_machine.specs.declared.kept.Ledger.{Ledger}
use Rattle.conn_machine.specs.Runs.{after, entries_of, first_row, row_of, AreEntriesOf}
use Rattle.conn_machine.specs.Folds.{HasPlacesFor, fold_of, opening_record}
use Rattle.table_rule.specs.declared.view.LastLeft.{LastLeft}
use Rattle.table_rule.specs.declared.view.Origin.{Origin}
use Rattle.table_rule.specs.declared.view.View.{View}
use Rattle.table_rule.specs.Histories.{ArePermitted, Extends}

-- the history is the folded entries and then what the value keeps; its base is the state after them, its record is the one
-- that was left, and but for its lines what one fold makes of them all: so it counts them, those of each pass too, and has the
-- connection of each pass behind them; its texts begin with those that were left
pub record IsSplit (origin : Origin) (left : LastLeft) (l : Ledger)
    (whole : List Entry) : Type 0 where
  pub whole_is : whole ≡ left.entries ++ l.history
  pub base : l.base ≡ after origin.state left.entries
  pub record_is : l.folded ≡ left.folded
  pub one_fold : l.folded
      ≡ record (fold_of origin.state left.entries [] (opening_record origin.passes))
      { lines = l.folded.lines }
  pub counted : l.folded.entries ≡ length left.entries
  pub places : HasPlacesFor origin.passes l.folded
  pub ordinals : (p : ℕ)
      → p < origin.passes
      → slice_index l.folded.ordinals p ≡ length (entries_of p left.entries)
  pub rows : (p : ℕ) → p < origin.passes → first_row l.folded p ≡ row_of p left.entries
  pub texts : Extends left.texts l.texts
  pub passes : l.passes ≡ origin.passes

-- the value was not folded: it has these entries more, and perhaps further texts
pub record KeepsOn (found new : Ledger) (added : List Entry) : Type 0 where
  pub base : new.base ≡ found.base
  pub record_is : new.folded ≡ found.folded
  pub history : new.history ≡ found.history ++ added
  pub texts : Extends found.texts new.texts

-- the value was folded once, behind some of the entries; of the report lines and of the texts nothing is said
pub record FoldsOn (found new : Ledger) (added : List Entry) : Type 0 where
  pub before : List Entry
  pub behind : List Entry
  pub added_is : added ≡ before ++ behind
  pub base : new.base ≡ after found.base (found.history ++ before)
  pub record_is : new.folded
      ≡ record (fold_of found.base (found.history ++ before) [] found.folded)
      { lines = new.folded.lines }
  pub history : new.history ≡ behind

-- what a pass may make of the value that its turn found: it adds entries of its own, each permitted; pass 0 may fold
pub record MayLeaveLedger (v : View) (found new : Ledger) : Type 0 where
  pub added : List Entry
  pub change : KeepsOn found new added ⊎ ((v.who.number ≡ 0) × FoldsOn found new added)
  pub passes : new.passes ≡ found.passes
  pub entries : AreEntriesOf v.who.number v.origin.state (opening_record v.origin.passes) v.seen
      added
  pub permitted : ArePermitted v.hand.permit v.credits (after v.origin.state v.seen) added

-- the pass has the turn, and may leave the value so
abbrev pub MayGiveBack : View → Ledger → Type 0
MayGiveBack v new = (found : Ledger) × (v.turn ≡ Some found) × MayLeaveLedger v found new

-- a turn ended: by the same entries the value that it found became this one, and what the pass had seen this history
pub record EndsTurn (v : View) (new : Ledger) (history : List Entry) : Type 0 where
  pub found : Ledger
  pub turn : v.turn ≡ Some found
  pub change : MayLeaveLedger v found new
  pub seen : history ≡ v.seen ++ change.added

-- what pass 0 left as it gave the turn back with this value; another pass leaves nothing
pub record IsLastLeft (v : View) (new : Ledger) (history : List Entry)
    (left : LastLeft) : Type 0 where
  pub own : v.who.number ≡ 0 → IsSplit v.origin left new history × (left.texts ≡ new.texts)
  pub other : v.who.number ≢ 0 → left ≡ v.left
