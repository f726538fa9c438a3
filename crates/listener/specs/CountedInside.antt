-- What the listener keeps on its way of what a front and a clock counted.
use Rattle.std.specs.Prelude.{◌≡◌, ◌⊎◌, ℕ, ◌≤◌, max, Result, Ok, Err, Some}
use Rattle.mpm_base.specs.Front.{FrontCounts}
use Rattle.mpm_base.specs.declared.front.Woke.{Woke}
use Rattle.mpm_base.specs.declared.front.Woke.TheVariants as woke
use Rattle.conn_machine.specs.declared.state.State.{State}
use Rattle.board_book.specs.Book.{SeenBook}
use Rattle.board_book.specs.declared.faults.BoardFault.{BoardFault}
use Rattle.board_book.specs.ClosedDown.{IsBrokenOff}
use Rattle.board_book.specs.Moments.{moment_for}
use Rattle.listener.specs.Counted.{CountsRun}
use Rattle.listener_round.specs.StandingInside.{owed_at}
use Rattle.rounds.specs.declared.ends.End.{End}
use Rattle.listener_round.specs.CountedInside.{CountsSo, CountsOn, CountsUntil}

-- ## A front

-- the front counted on by turns that ended so: one line that says `stop`, where they ended for that
abbrev pub TurnsCount : Result End BoardFault → FrontCounts → FrontCounts → SeenBook → SeenBook → Type 0
TurnsCount (Ok end) old new a b = CountsOn (owed_at (Some end)) old new a b
TurnsCount (Err fault) old new a b = CountsUntil old new a b

-- what it counted to the end of a run
abbrev pub CountsToEnd : FrontCounts → FrontCounts → SeenBook → SeenBook → Type 0
CountsToEnd old new a b = (first : FrontCounts) → CountsSo 0 first old a → CountsRun b first new

-- ## A clock

-- the moment that a wait gave, where it gave one, is an answer of the clock; else it is the present one, and the clock wasn't asked
abbrev pub MovesClock : Woke → ℕ → ℕ → ℕ → ℕ → Type 0
MovesClock (woke.Woke m) present old new moment = new ≡ max old moment
MovesClock woke.Ended present old new moment = (new ≡ old) × (moment ≡ present)
MovesClock woke.Failed present old new moment = (new ≡ old) × (moment ≡ present)

-- the moment is the greatest answer of the clock, where that was this one at first
abbrev pub IsAtClock : ℕ → ℕ → State → Type 0
IsAtClock first greatest s = moment_for greatest ≡ max (moment_for first) s.moment

-- the moment goes on so to the end of a run
abbrev pub KeepsClockFrom : ℕ → ℕ → State → State → Type 0
KeepsClockFrom old new s s' =
    (first : ℕ) → IsAtClock first old s → IsAtClock first new s' ⊎ (IsBrokenOff s'.going × (s'.moment ≤ moment_for new))

-- the moment goes on with the greatest answer of the clock
abbrev pub ClocksAt : ℕ → ℕ → State → State → Type 0
ClocksAt old new s s' = (first : ℕ) → IsAtClock first old s → IsAtClock first new s'

-- so it does in turns; where they were broken off it may stay behind
abbrev pub ClocksOn : Result End BoardFault → ℕ → ℕ → State → State → Type 0
ClocksOn (Ok end) old new s s' = ClocksAt old new s s'
ClocksOn (Err fault) old new s s' = (first : ℕ) → IsAtClock first old s → s'.moment ≤ moment_for new
