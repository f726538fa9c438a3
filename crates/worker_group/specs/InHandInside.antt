-- What a worker knows of the connection that it serves, or lets linger.
use Rattle.std.specs.Prelude.{◌≡◌, ℕ, ◌+◌, ◌-◌, ◌*◌, true, length, Some, if◌then◌else◌}
use Rattle.mpm_base.specs.declared.conn.Cause.{Cause}
use Rattle.conn_machine.specs.declared.row.Row.{Row}
use Rattle.conn_machine.specs.declared.state.State.{State}
use Rattle.conn_machine.specs.Rows.{is_working, live_row}
use Rattle.conn_machine.specs.Children.{child_at}
use Rattle.conn_machine.specs.Table.{is_allowed}
use Rattle.conn_machine.specs.declared.event.Event.TheVariants as event
use Rattle.conn_state.specs.declared.turn.LastLinger.TheVariants as linger
use Rattle.conn_state.specs.Rest.{is_awaited}
use Rattle.conn_state.specs.Conn.{SeenConn, is_usable}
use Rattle.conn_state.specs.Answered.{MayLinger}
use Rattle.board.specs.Fits.{Fits}

-- a worker serves the connection, which may be read, answered and written; no half-close was tried yet
pub record IsServed (s : State) (c : SeenConn) : Type 0 where
  pub row : Row
  pub found : live_row s.rows c.name ≡ Some row
  pub working : is_working row.place ≡ true
  pub fits : Fits c row
  pub usable : is_usable c.turn ≡ true
  pub open_side : c.linger ≡ linger.Open

-- how many more responses the child of the connection allows it
abbrev pub answers_left : State → SeenConn → ℕ
answers_left s c = (child_at s.children c.child).shape.most - length c.notes

-- how many more times something may become pending: each response, and before it what tells its client to send the body, unless that
-- was told
abbrev pub sends_left : State → SeenConn → ℕ
sends_left s c = 2 * answers_left s c + (if is_awaited c.reader.stage then 0 else 1)

-- a connection in hand may linger for the cause, which it shows: it was half-closed
pub record IsLingerable (s : State) (why : Cause) (c : SeenConn) : Type 0 where
  pub row : Row
  pub found : live_row s.rows c.name ≡ Some row
  pub fits : Fits c row
  pub allowed : is_allowed s (event.Linger c.name why) ≡ true
  pub shut : c.linger ≡ linger.Shut
  pub shows : MayLinger why c
