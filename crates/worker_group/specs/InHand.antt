-- What a worker knows of the row of a connection that it has.
use Rattle.std.specs.Prelude.{◌≡◌, ◌||◌, true, false, Some, IfSome}
use Rattle.mpm_base.specs.declared.conn.Cause.{Cause}
use Rattle.mpm_base.specs.declared.conn.Tail.{Tail}
use Rattle.conn_machine.specs.declared.row.Row.{Row}
use Rattle.conn_machine.specs.declared.state.State.{State}
use Rattle.conn_machine.specs.Rows.{is_held, is_working, is_lingering, live_row}
use Rattle.conn_machine.specs.Table.{end_fits}
use Rattle.conn_state.specs.Conn.{SeenConn, is_half_closed}
use Rattle.conn_state.specs.Answered.{IsShown}
use Rattle.board.specs.Backed.{AreBacked}
use Rattle.board.specs.Fits.{Fits, NotesEnd}

-- a worker or the listener has the connection, whose link wasn't half-closed; it is the one of its row, which doesn't linger
pub record IsInHand (s : State) (c : SeenConn) : Type 0 where
  pub row : Row
  pub found : live_row s.rows c.name ≡ Some row
  pub in_hand : (is_held row.place || is_working row.place) ≡ true
  pub serves : is_lingering row ≡ false
  pub fits : Fits c row
  pub open_side : is_half_closed c.linger ≡ false

-- a connection in hand may be closed for the cause, with its link left so, which its link, its row or the server shows
pub record IsClosable (s : State) (why : Cause) (how : Tail) (c : SeenConn) : Type 0 where
  pub row : Row
  pub found : live_row s.rows c.name ≡ Some row
  pub in_hand : (is_held row.place || is_working row.place) ≡ true
  pub end_fits : end_fits s why how row ≡ true
  pub child : c.child ≡ row.child
  pub generation : c.generation ≡ row.generation
  pub notes : NotesEnd why c.notes row.notes
  pub rank : IfSome c.told (λ t. t.rank ≡ row.arrival)
  pub backed : AreBacked row.waits c.counts
  pub shown : IsShown why how c
