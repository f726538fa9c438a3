-- Why the listener's turns end, and how the server stops behind them.
use Rattle.board_book.specs.Book.{SeenBook}
use Rattle.board_book.specs.declared.faults.BoardFault.{BoardFault}
use Rattle.conn_machine.specs.States.{is_halted, is_over}
use Rattle.conn_machine.specs.declared.event.Why.{Why}
use Rattle.conn_machine.specs.declared.state.Going.{Going}
use Rattle.conn_machine.specs.declared.state.Going.TheVariants.{Ending, Halted}
use Rattle.conn_machine.specs.declared.state.State.{State}
use Rattle.board_book.specs.ClosedDown.{HasNoLive, IsClosedDown}
use Rattle.rounds.specs.declared.ends.End.{End}
use Rattle.std.specs.Prelude.{◌≡◌, ℕ, Option, is_none, Bool, true, false, None, Some, Result, Ok, Err}
use Rattle.worker_group.specs.Service.{RefusalLasts}
use Rattle.conn_machine.specs.declared.event.Why.TheVariants as why
use Rattle.rounds.specs.declared.ends.End.TheVariants as end

-- the server was asked to end, and is at its end: no connection is live, and each child is gone
pub record IsAllGone (s : State) : Type 0 where
  pub until : Option ℕ
  pub going : s.going ≡ Ending until
  pub down : IsClosedDown s

-- the server goes on, and no connection is live where nothing more can come; or its time is over, or it is at its end; or it has to stop for
-- the fault, or did
abbrev pub MustHalt : Result End BoardFault → SeenBook → Type 0
MustHalt (Ok end.Ended) b = (is_halted b.state.going ≡ false) × HasNoLive b.state
MustHalt (Ok end.Asked) b = is_halted b.state.going ≡ false
MustHalt (Ok end.Failed) b = is_halted b.state.going ≡ false
MustHalt (Ok end.Overdue) b = is_over b.state.moment b.state.going ≡ true
MustHalt (Ok end.Gone) b = IsAllGone b.state
MustHalt (Err fault) b = RefusalLasts fault b

-- why the server is stopped at the end of the turns; behind a graceful stop that is at its end it isn't
abbrev pub why_of : End → Option Why
why_of end.Ended = Some why.FrontEnded
why_of end.Asked = Some why.Asked
why_of end.Failed = Some why.FrontFailed
why_of end.Overdue = Some why.Overdue
why_of end.Gone = None

-- the turns end behind a graceful stop that is at its end
abbrev pub is_at_end : Result End BoardFault → Bool
is_at_end (Ok e) = is_none (why_of e)
is_at_end (Err fault) = false

-- how the server goes on that is stopped for this, or for nothing
abbrev pub HaltsFor : Option Why → Going → Going → Type 0
HaltsFor None old new = new ≡ old
HaltsFor (Some why) old new = new ≡ Halted why

-- how the server stops behind them
abbrev pub HaltsAs : Result End BoardFault → Going → Going → Type 0
HaltsAs (Ok end) old new = HaltsFor (why_of end) old new
HaltsAs (Err fault) old new = new ≡ Halted why.NoMemory
