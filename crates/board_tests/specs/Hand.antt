-- What is known of a connection that the pass of a board has, and how a turn leaves it.
use Rattle.std.specs.Prelude.{◌≡◌, ℕ, ◌<◌, true, List, [], Option, None, Some, IfSome, ⊤}
use Rattle.mpm_base.specs.declared.conn.Cause.{Cause}
use Rattle.mpm_base.specs.declared.conn.Cause.TheVariants as cause
use Rattle.mpm_base.specs.declared.conn.ConnName.{ConnName}
use Rattle.conn_machine.specs.declared.row.Row.{Row}
use Rattle.conn_machine.specs.declared.state.State.{State}
use Rattle.conn_state.specs.declared.turn.LastTurn.TheVariants as turn
use Rattle.conn_state.specs.declared.turn.LastLinger.TheVariants as linger
use Rattle.conn_state.specs.Answered.{IsShown, MayLinger}
use Rattle.conn_state.specs.Conn.{SeenConn}
use Rattle.board.specs.Backed.{BacksWait}
use Rattle.board.specs.Fits.{FoundNoMore, IsSettled}
use Rattle.board_tests.specs.declared.hand.Turn.{Turn}
use Rattle.board_tests.specs.declared.hand.Turn.TheVariants as next
use Rattle.board_tests.specs.declared.hand.Lingered.{Lingered}
use Rattle.board_tests.specs.declared.hand.Lingered.TheVariants as lingered

-- the connection is a new one for that row, under that name
pub record IsNewFor (name : ConnName) (row : Row) (c : SeenConn) : Type 0 where
  pub named : c.name ≡ name
  pub child : c.child ≡ row.child
  pub generation : c.generation ≡ row.generation
  pub rank : IfSome c.told (λ t. t.rank ≡ row.arrival)
  pub unanswered : c.notes ≡ []
  pub new : c.turn ≡ turn.New
  pub open_side : c.linger ≡ linger.Open

-- a turn of service left the connection so that it may wait, or linger, as it says
abbrev pub Leaves : Turn → State → SeenConn → Type 0
Leaves next.Goes s c = ⊤
Leaves (next.Parks kind) s c = IsSettled kind None c × FoundNoMore kind c × BacksWait kind s c
Leaves next.Lingers s c = MayLinger cause.LastSent c
Leaves next.Ends s c = ⊤

-- a turn of lingering for that cause left the connection so that it may wait, or end, as it says
abbrev pub LeavesLingering : Cause → Lingered → State → SeenConn → Type 0
LeavesLingering why (lingered.Waits kind) s c = IsSettled kind (Some why) c × FoundNoMore kind c × BacksWait kind s c
LeavesLingering why (lingered.Ends tail) s c = IsShown why tail c
