-- What a turn of a pass was, of which the lock's rule is nothing to whoever took it: what others had added, and then events of its own.
use Rattle.std.specs.Prelude.{◌≡◌, ℕ, List, ◌++◌, map, None}
use Rattle.atomic_table.specs.Table.{Me}
use Rattle.conn_machine.specs.declared.event.Event.{Event}
use Rattle.conn_machine.specs.declared.event.Entry.{Entry}
use Rattle.conn_machine.specs.declared.state.State.{State}
use Rattle.conn_machine.specs.Folds.{opening_record}
use Rattle.conn_machine.specs.Made.{AreMade, AreOfPasses, HasSeen}
use Rattle.conn_machine.specs.Runs.{AreEntriesOf, after, own_events, row_of}
use Rattle.table_rule.specs.declared.view.View.{View}
use Rattle.table_rule.specs.Histories.{Extends}
use Rattle.board_lock.specs.Passes.{HasNoTurn}

-- ## One turn

-- what no turn changes, and its pass has no turn behind it; the connection that it has is the one that its entries left it
pub record StaysAs (old new : View) : Type 0 where
  pub origin : new.origin ≡ old.origin
  pub who : new.who ≡ old.who
  pub hand : new.hand ≡ old.hand
  pub past : new.past ≡ old.past
  pub credits : new.credits ≡ old.credits
  pub turn : new.turn ≡ None
  pub row : new.row ≡ row_of old.who.number new.seen

-- nothing was folded: what pass 0 left folded last is as it was
pub record KeepsLeft (old new : View) : Type 0 where
  pub entries : new.left.entries ≡ old.left.entries
  pub folded : new.left.folded ≡ old.left.folded

-- the state behind a history that the pass found
abbrev pub state_found : View → List Entry → State
state_found v found = after v.origin.state found

-- a turn found this history, which goes on from what the pass had seen by entries of others, each of which its pass, one of so many, may
-- make where it stands; behind it the pass made these events, by entries that it may make there, and has seen them too. The rest stays, and
-- nothing was folded
pub record HadTurn (found : List Entry) (events : List Event) (old new : View) : Type 0 where
  pub others : HasSeen old.who.number old.seen found
  pub made : AreMade old.origin.state (opening_record old.origin.passes) found
  pub few : AreOfPasses old.origin.passes found
  pub added : List Entry
  pub entries : AreEntriesOf old.who.number old.origin.state (opening_record old.origin.passes) found
      added
  pub events_are : map (λ e. e.event) added ≡ events
  pub seen : new.seen ≡ found ++ added
  pub stays : StaysAs old new
  pub left : KeepsLeft old new

-- a turn found this history, and the pass made nothing in it. Of what is folded nothing is said
pub record HadQuietTurn (found : List Entry) (old new : View) : Type 0 where
  pub others : HasSeen old.who.number old.seen found
  pub made : AreMade old.origin.state (opening_record old.origin.passes) found
  pub few : AreOfPasses old.origin.passes found
  pub seen : new.seen ≡ found
  pub stays : StaysAs old new

-- whatever it found, in one turn the pass made these events
abbrev pub HadATurn : List Event → View → View → Type 0
HadATurn events old new = (found : List Entry) × HadTurn found events old new

-- ## Some turns

-- in some turns, one behind the other, the pass made these events; before, between and behind them others may have made theirs
pub record HadTurns (events : List Event) (old new : View) : Type 0 where
  pub goes_on : Extends old.seen new.seen
  pub made : own_events old.who.number new.seen ≡ own_events old.who.number old.seen ++ events
  pub origin : new.origin ≡ old.origin
  pub who : new.who ≡ old.who
  pub hand : new.hand ≡ old.hand
  pub past : new.past ≡ old.past
  pub credits : new.credits ≡ old.credits
  pub left : KeepsLeft old new

-- ## Who has one

-- pass 0, which has no turn: each entry that it has seen was made by its pass as it might be, and it has the connection that its own left it
pub record IsListener {S : Type 0} (me : Me S View) : Type 0 where
  pub turnless : HasNoTurn me
  pub number : me.0.who.number ≡ 0
  pub made : AreMade me.0.origin.state (opening_record me.0.origin.passes) me.0.seen
  pub row_is : me.0.row ≡ row_of 0 me.0.seen
