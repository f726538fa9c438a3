-- How a board goes on by events of a pass, with the board in hand.
use Rattle.std.specs.Prelude.{◌≡◌, ℕ, Bool, List, map, Option, Some, is_some, nat_le}
use Rattle.mpm_base.specs.declared.conn.Cause.{Cause}
use Rattle.mpm_base.specs.declared.conn.ConnName.{ConnName}
use Rattle.mpm_base.specs.declared.conn.Kind.{Kind}
use Rattle.conn_machine.specs.declared.event.Event.{Event}
use Rattle.conn_machine.specs.declared.row.Row.{Row}
use Rattle.conn_machine.specs.declared.state.State.{State}
use Rattle.conn_machine.specs.Rows.{is_linger_kind, live_row}
use Rattle.conn_machine.specs.Table.{held_row}
use Rattle.conn_state.specs.Conn.{SeenConn}
use Rattle.table_rule.specs.Histories.{Extends}
use Rattle.board.specs.Board.{SeenBoard}
use Rattle.board_book.specs.Book.{AddsOnly}
use Rattle.board.specs.Fits.{Fits, IsSettled}

-- the pass made these events, in this order, and nothing was folded; the connections that had ended stay, with perhaps further ones
pub record MadeEvents (who : ℕ) (events : List Event) (old new : SeenBoard) : Type 0 where
  pub base : new.book.base ≡ old.book.base
  pub folded : new.book.folded ≡ old.book.folded
  pub passes : new.book.passes ≡ old.book.passes
  pub ended : Extends old.ended new.ended
  pub adds : AddsOnly who old.book new.book
  pub events_are : map (λ e. e.event) adds.0 ≡ events

-- the connection of that name, which waited for this and lingered for that, where it did, was taken up: the row that it had, and what is
-- known of it then
pub record TookUpRow (old new : State) (name : ConnName) (c : SeenConn) (kind : Kind)
    (lingered : Option Cause) (late : Bool) : Type 0 where
  pub was : Row
  pub found : live_row old.rows name ≡ Some was
  pub now : live_row new.rows c.name ≡ Some (held_row was)
  pub kind_is : was.from ≡ Some kind
  pub cause_is : was.cause ≡ lingered
  pub lingers : is_linger_kind kind ≡ is_some lingered
  pub late_is : late ≡ nat_le was.deadline old.moment
  pub fits : Fits c (held_row was)
  pub settled : IsSettled kind lingered c
