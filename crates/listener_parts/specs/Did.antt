-- What a part of the listener's round was, said over what pass 0 has seen.
use Rattle.std.specs.Prelude.{◌≡◌, List, [], ◌∷◌, ◌++◌, Option, None, ⊤}
use Rattle.mpm_base.specs.declared.conn.ConnName.{ConnName}
use Rattle.conn_machine.specs.declared.event.Event.{Event}
use Rattle.conn_machine.specs.declared.state.State.{State}
use Rattle.conn_machine.specs.Table.{next}
use Rattle.table_rule.specs.declared.view.View.{View}
use Rattle.table_rule.specs.Histories.{Extends}
use Rattle.board_turns.specs.Turns.{KeepsLeft}
use Rattle.conn_machine.specs.Made.{HasSeen}
use Rattle.conn_machine.specs.Runs.{own_events}

-- ## What it did

-- in some turns, and by steps on idle words between them, the pass made these events; before, between and behind them others may have made
-- theirs. Behind it the pass has this connection, or none, and nothing was folded
pub record Did (events : List Event) (has : Option ConnName) (old new : View) : Type 0 where
  pub goes_on : Extends old.seen new.seen
  pub made : own_events old.who.number new.seen ≡ own_events old.who.number old.seen ++ events
  pub origin : new.origin ≡ old.origin
  pub who : new.who ≡ old.who
  pub hand : new.hand ≡ old.hand
  pub row : new.row ≡ has
  pub left : KeepsLeft old new

-- the pass made nothing, and has no connection; others may have made theirs. Of what is folded nothing is said
pub record OnlySees (old new : View) : Type 0 where
  pub others : HasSeen old.who.number old.seen new.seen
  pub origin : new.origin ≡ old.origin
  pub who : new.who ≡ old.who
  pub hand : new.hand ≡ old.hand
  pub row : new.row ≡ None

-- ## What it left alone

-- no time passed, no connection was taken, no generation began, and the server goes on as before
pub record StandsAs (old new : State) : Type 0 where
  pub moment : new.moment ≡ old.moment
  pub accepted : new.accepted ≡ old.accepted
  pub newest : new.newest ≡ old.newest
  pub shape : new.shape ≡ old.shape
  pub going : new.going ≡ old.going

-- and so does each child: nothing was done that the listener alone decides, but that slots may be signalled
pub record LeavesAlone (old new : State) : Type 0 where
  pub stands : StandsAs old new
  pub children : new.children ≡ old.children

-- the event leaves all of that alone
abbrev pub IsOfConns : Event → Type 0
IsOfConns e = (s : State) → LeavesAlone s (next s e)

-- so does each of these
abbrev pub AreOfConns : List Event → Type 0
AreOfConns [] = ⊤
AreOfConns (e ∷ events) = IsOfConns e × AreOfConns events
