-- The events that the listener adds by the parts of a round, and how a server goes down.
use Rattle.std.specs.Prelude.{◌≡◌, ℕ, Bool, true, false, List, [], ◌∷◌, ◌++◌, length, map, Option, None, Some, Result, Ok, Err}
use Rattle.std.specs.List.{flat_map}
use Rattle.mpm_base.specs.declared.conn.ConnName.{ConnName}
use Rattle.mpm_base.specs.declared.conn.Cause.TheVariants as cause
use Rattle.mpm_base.specs.declared.conn.Kind.TheVariants.{Reading}
use Rattle.mpm_base.specs.declared.conn.Tail.TheVariants.{Direct}
use Rattle.conn_machine.specs.declared.event.Commanded.TheVariants.{Stop}
use Rattle.conn_machine.specs.declared.event.Event.{Event}
use Rattle.conn_machine.specs.declared.event.Event.TheVariants as event
use Rattle.conn_machine.specs.declared.event.Why.{Why}
use Rattle.conn_machine.specs.declared.event.Why.TheVariants as why
use Rattle.conn_state.specs.Conn.{IsFrontOf}
use Rattle.board_book.specs.declared.faults.BoardFault.{BoardFault}
use Rattle.board_book.specs.Book.{SeenBook, row_in}
use Rattle.board.specs.Board.{SeenBoard}
use Rattle.worker_group.specs.declared.service.Exit.{Exit}
use Rattle.worker_group.specs.declared.service.Exit.TheVariants as exit
use Rattle.worker_group.specs.Acts.{Acts}
use Rattle.worker_group.specs.Service.{HasServed, give_up_events}
use Rattle.rounds.specs.ClosingInside.{AllLeftBy, GivesUpDrained, IsDrainedWay, IsHaltedWay, IsLateWay, IsRetiringWay, Departure, LetsGo, NoneEarly, departure_events}
use Rattle.board_book.specs.ClosedDown.{IsClosedDown}
use Rattle.rounds.specs.EndsInside.{HaltsAs, why_of}
use Rattle.board_book.specs.AtRest.{NoneDue}
use Rattle.rounds.specs.declared.ends.End.{End}
use Rattle.board_book.specs.Timely.{AreTimely}
use Rattle.board_book.specs.Moments.{known_slots, ticks_to}

-- no pass has a connection
abbrev pub NoneHas : SeenBook → Type 0
NoneHas b = (who : ℕ) → row_in who b ≡ None

-- where it was time for each event before, so it was for each one since
abbrev pub StaysTimely : SeenBook → SeenBook → Type 0
StaysTimely old new = AreTimely old.base old.history → AreTimely new.base new.history

-- children were started, each in its time, and nothing else was done
pub record StartsSome (old new : SeenBook) : Type 0 where
  pub children : List ℕ
  pub acts : Acts 0 (map event.StartChild children) None old new
  pub timely : StaysTimely old new

-- children were let go of, each in its time, and nothing else was done
pub record RetiresSome (old new : SeenBook) : Type 0 where
  pub children : List ℕ
  pub acts : Acts 0 (map event.Retire children) None old new
  pub timely : StaysTimely old new

-- ## Connections that are taken

-- a connection that the front watches waits for its first request, and another one is closed
abbrev pub way_of : Bool → Exit
way_of true = exit.Park Reading
way_of false = exit.Close cause.LinkFailed Direct

-- the connection was given up for the fault, and nothing else was done
abbrev pub GivesUp : BoardFault → ConnName → SeenBook → SeenBook → Type 0
GivesUp fault name old new = Acts 0 (give_up_events fault name) None old new

-- ## Connections that are served

-- the pass did nothing, and the connections that the board has, and those that ended, are the same
pub record LeavesConns (who : ℕ) (old new : SeenBoard) : Type 0 where
  pub acts : Acts who [] None old.book new.book
  pub conns : new.conns ≡ old.conns
  pub ended : new.ended ≡ old.ended

-- the connections of these names were served by the pass, one behind the other, and the pass did nothing else
abbrev pub AreServed : ℕ → List ConnName → SeenBoard → SeenBoard → Type 0
AreServed who [] old new = LeavesConns who old new
AreServed who (name ∷ names) old new =
    (a : SeenBoard) × (b : SeenBoard) × LeavesConns who old a × HasServed who name a b × AreServed who names b new

-- the pass that serves did so with these; where no connection was due with none
pub record ServesSome (old new : SeenBoard) : Type 0 where
  pub names : List ConnName
  pub none : NoneDue old.book.state → names ≡ []
  pub served : AreServed 1 names old new

-- ## A round

-- the connections that were let go of behind the signals: those that were kept alive by a child that stops, those that were late at
-- once then, and those that were drained
pub record Departures : Type 0 where
  pub retiring : List Departure
  pub cut : List Departure
  pub drained : List Departure

-- the events by which connections were let go of
abbrev pub gone_events : List Departure → List Event
gone_events gone = flat_map departure_events gone

-- the events by which time passes
abbrev pub time_events : List Departure → List ℕ → List Departure → List Event
time_events early ticks late = gone_events early ++ map event.Tick ticks ++ gone_events late

-- the events by which connections are let go of that retire, or linger
abbrev pub departures_events : Departures → List Event
departures_events l = gone_events l.retiring ++ gone_events l.cut ++ gone_events l.drained

-- each of the connections was left in a way that its part allows
pub record AreLetGo (l : Departures) : Type 0 where
  pub retiring : AllLeftBy IsRetiringWay l.retiring
  pub cut : AllLeftBy IsLateWay l.cut
  pub drained : AllLeftBy IsDrainedWay l.drained

-- time passed to that moment, where it is later than the one before; late connections were let go of before and after
pub record PassesTime (to : ℕ) (old new : SeenBook) : Type 0 where
  pub early : List Departure
  pub soon : NoneEarly old early
  pub late : List Departure
  pub early_ways : AllLeftBy IsLateWay early
  pub late_ways : AllLeftBy IsLateWay late
  pub acts : Acts 0 (time_events early (ticks_to old.state.moment to) late) None old new

-- connections that retire were let go of, and lingering ones drained
pub record LetsGoOfConns (old new : SeenBook) : Type 0 where
  pub departures : Departures
  pub ways : AreLetGo departures
  pub acts : Acts 0 (departures_events departures) None old new

-- the same, which led to this book; then a lingering one could not wait any more, and was given up for the fault
pub record LetsGoUntil (fault : BoardFault) (old new : SeenBook) : Type 0 where
  pub book : SeenBook
  pub lets : LetsGoOfConns old book
  pub last : GivesUpDrained fault book new

-- the events by which those of the slots that the table has are signalled, once and in order
abbrev pub signal_events : SeenBook → List ℕ → List Event
signal_events b slots = map event.Ready (known_slots (length b.base.rows) slots)

-- the first of them were signalled so, and nothing else was done
pub record SignalsFirst (slots : List ℕ) (old new : SeenBook) : Type 0 where
  pub first : List ℕ
  pub front : IsFrontOf (known_slots (length old.base.rows) slots) first
  pub acts : Acts 0 (map event.Ready first) None old new

-- ## The end

-- the event that stops the server for this, where there is one
abbrev pub halts_for : Option Why → List Event
halts_for None = []
halts_for (Some why) = event.Command (Stop why) ∷ []

-- the event by which the turns' end stops the server: where they were broken off it is for want of memory, as nothing else stopped it
abbrev pub halt_events : Result End BoardFault → List Event
halt_events (Ok end) = halts_for (why_of end)
halt_events (Err fault) = event.Command (Stop why.NoMemory) ∷ []

-- the server was stopped for what ended the turns, each connection that waited was closed, and each child was let go of. Behind a graceful
-- stop that is at its end nothing was left to be done
pub record GoesDown (turns : Result End BoardFault) (old new : SeenBook) : Type 0 where
  pub halted : SeenBook
  pub closed : SeenBook
  pub halts : Acts 0 (halt_events turns) None old halted
  pub closes : LetsGo IsHaltedWay halted closed
  pub retires : RetiresSome closed new
  pub moment : new.state.moment ≡ old.state.moment
  pub accepted : new.state.accepted ≡ old.state.accepted
  pub going : HaltsAs turns old.state.going new.state.going
  pub down : IsClosedDown new.state
  pub timely : StaysTimely old new
