-- What a front and a clock counted in a run, whether they tell or not.
use Rattle.std.specs.Prelude.{◌≡◌, ◌⊎◌, ℕ, ◌+◌, ◌<◌, ◌≤◌, List, max, Option, None, Some}
use Rattle.mpm_base.specs.Count.{Rises, RisesJustBy, greatest_count}
use Rattle.mpm_base.specs.Front.{FrontCounts}
use Rattle.conn_machine.specs.declared.event.Entry.{Entry}
use Rattle.conn_machine.specs.declared.event.Why.TheVariants as why
use Rattle.conn_machine.specs.declared.state.Going.{Going}
use Rattle.conn_machine.specs.declared.state.Going.TheVariants.{Halted}
use Rattle.conn_machine.specs.declared.state.State.{State}
use Rattle.conn_machine.specs.Events.{count_events}
use Rattle.board.specs.Board.{SeenBoard}
use Rattle.board_book.specs.Book.{SeenBook}
use Rattle.board_book.specs.Editions.{orders_in}
use Rattle.board_book.specs.ClosedDown.{IsBrokenOff}
use Rattle.board_book.specs.Moments.{moment_for}
use Rattle.run_report.specs.Endings.{HasEndedGracefully}
use Rattle.listener_round.specs.Commands.{is_graceful_stop}

-- ## A front

-- the count rose by just so many; or where the server stopped for want of memory by one more, with which nothing was done
abbrev pub CountsBut : Going → ℕ → ℕ → ℕ → Type 0
CountsBut going many old new = RisesJustBy many old new ⊎ (IsBrokenOff going × RisesJustBy (many + 1) old new)

-- how many lines that say `stop` a server was given: one where it stopped for that, and else none
abbrev pub stops_at : Going → ℕ
stops_at (Halted why.Asked) = 1
stops_at other = 0

-- what the front counted in a run: as many lines that say `graceful` as there were orders, folded ones too; one that says
-- `graceful-stop`, where the server ended gracefully; one that says `stop` exactly where it stopped for that; and as many links that were
-- handed out as connections were taken
pub record CountsRun (b : SeenBook) (old new : FrontCounts) : Type 0 where
  pub orders : CountsBut b.state.going (orders_in b) old.words.graceful new.words.graceful
  pub ending : HasEndedGracefully b.state.going → Rises old.words.graceful_stop new.words.graceful_stop
  pub stops : RisesJustBy (stops_at b.state.going) old.words.stop new.words.stop
  pub links : CountsBut b.state.going b.state.accepted old.handed new.handed

-- where the history begins no graceful stop the front was given no line that says `graceful-stop`; or where the server stopped for want of
-- memory one at most, with which nothing was done
abbrev pub GivesNoEnding : Going → List Entry → FrontCounts → FrontCounts → Type 0
GivesNoEnding going history old new =
    count_events is_graceful_stop history ≡ 0 → CountsBut going 0 old.words.graceful_stop new.words.graceful_stop

-- ## A clock

-- the moment is the greatest answer of the clock, as far as moments go, or what was its greatest answer before is later; where the server
-- stopped for want of memory it may be an earlier one
abbrev pub KeepsClock : State → ℕ → ℕ → Type 0
KeepsClock s old new =
    (moment_for new ≡ max (moment_for old) s.moment) ⊎ (IsBrokenOff s.going × (s.moment ≤ moment_for new))

-- the clock was asked once for each wait of the front that gave a moment, while both counts are below the greatest number
pub record AsksOnce (wakes wakes' asked asked' : ℕ) : Type 0 where
  pub wakes_on : wakes ≤ wakes'
  pub asked_on : asked ≤ asked'
  pub once : wakes' < greatest_count → asked' < greatest_count → asked' + wakes ≡ asked + wakes'

-- the moment is so of what is left of a server, where one ran; and else the clock answered nothing
abbrev pub LeavesClock : Option SeenBoard → ℕ → ℕ → Type 0
LeavesClock None old new = new ≡ old
LeavesClock (Some b) old new = KeepsClock b.book.state old new
