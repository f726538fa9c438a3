-- The events of a whole round, which are those of its parts in their order, and of the connections that it takes.
use Rattle.std.specs.Prelude.{◌≡◌, ◌⊎◌, ℕ, Bool, List, [], ◌∷◌, ◌++◌, length, map, Option, None, Some, option_map, ⊤}
use Rattle.std.specs.List.{flat_map}
use Rattle.mpm_base.specs.Front.{FrontTold, after_turning_away, after_watch}
use Rattle.mpm_base.specs.Count.{next_count}
use Rattle.mpm_base.specs.Link.{LinkTold}
use Rattle.mpm_base.specs.declared.conn.ConnName.{ConnName}
use Rattle.conn_machine.specs.declared.event.Commanded.{Commanded}
use Rattle.conn_machine.specs.declared.event.Commanded.TheVariants as commanded
use Rattle.conn_machine.specs.declared.event.Event.{Event}
use Rattle.conn_machine.specs.declared.event.Event.TheVariants as event
use Rattle.conn_machine.specs.declared.state.State.{State}
use Rattle.conn_machine.specs.Runs.{after}
use Rattle.conn_state.specs.Conn.{IsFrontOf}
use Rattle.board_book.specs.declared.faults.BoardFault.{BoardFault}
use Rattle.board_book.specs.Book.{SeenBook}
use Rattle.board_book.specs.Faults.{IsRefusedFor}
use Rattle.worker_group.specs.declared.service.Exit.{Exit}
use Rattle.worker_group.specs.Acts.{Acts}
use Rattle.worker_group.specs.Service.{left_events}
use Rattle.rounds.specs.ClosingInside.{AllLeftBy, GivesUpDrained, IsLateWay, Departure, NoneEarly}
use Rattle.listener_round.specs.FrontInside.{IsInStep}
use Rattle.rounds.specs.declared.ends.End.{End}
use Rattle.rounds.specs.declared.ends.End.TheVariants as end
use Rattle.board_book.specs.Moments.{known_slots, ticks_to}
use Rattle.rounds.specs.PartsInside.{way_of, GivesUp, Departures, time_events, departures_events, AreLetGo, PassesTime}

-- ## Connections that are taken

-- a connection that was taken, and how it was left then
pub record Intake : Type 0 where
  pub name : ConnName
  pub way : Exit

-- the events by which it was taken and left
abbrev pub intake_events : Intake → List Event
intake_events t = event.Accept t.name.slot ∷ left_events t.way t.name

-- the connection was left so, as the front watches it or doesn't
pub record IsLeftAsWatched (way : Exit) : Type 0 where
  pub watched : Bool
  pub way_is : way ≡ way_of watched

-- each of them was left so
abbrev pub AllLeft : List Intake → Type 0
AllLeft [] = ⊤
AllLeft (t ∷ takes) = IsLeftAsWatched t.way × AllLeft takes

-- the connection of the link was taken, the link watched under its name, and the connection left by what that answered
pub record IsTaking (link : Option LinkTold) (told told' : Option FrontTold) (old new : SeenBook) : Type 0 where
  pub name : ConnName
  pub watched : Bool
  pub told_is : told' ≡ option_map (after_watch name watched link) told
  pub acts : Acts 0 (intake_events (record { name = name; way = way_of watched })) None old new

-- the table counts one connection more; and where the front was in step with that count, as the link was handed out already, it
-- still is
pub record IsTakenStill (told told' : Option FrontTold) (old new : State) : Type 0 where
  pub accepted : new.accepted ≡ next_count old.accepted
  pub step : IsInStep told new → IsInStep told' new

-- the table counts no connection more, and the front turned the link away
pub record IsTurnedAway (link : Option LinkTold) (told told' : Option FrontTold) (old new : State) : Type 0 where
  pub accepted : new.accepted ≡ old.accepted
  pub told_is : told' ≡ option_map (after_turning_away link) told

-- a connection that could not be taken so: the table took it all the same; or it refused its link, which the front turned away
abbrev pub EndsTaking : Option LinkTold → Option FrontTold → Option FrontTold → State → State → Type 0
EndsTaking link told told' old new = IsTakenStill told told' old new ⊎ IsTurnedAway link told told' old new

-- connections were taken, each left so, and nothing else was done
pub record TakesSome (old new : SeenBook) : Type 0 where
  pub takes : List Intake
  pub left : AllLeft takes
  pub acts : Acts 0 (flat_map intake_events takes) None old new

-- a call was refused for the fault, and nothing was done
pub record ChangesNothing (fault : BoardFault) (old new : SeenBook) : Type 0 where
  pub why : IsRefusedFor fault old
  pub same : new ≡ old

-- a connection was taken, which led to this book; its first wait was refused there for the fault, and it was given up
pub record GivesUpTaken (fault : BoardFault) (old new : SeenBook) : Type 0 where
  pub name : ConnName
  pub book : SeenBook
  pub took : Acts 0 (event.Accept name.slot ∷ []) (Some name) old book
  pub state : after book.base book.history ≡ book.state
  pub why : IsRefusedFor fault book
  pub acts : GivesUp fault name book new

-- a connection could not be taken for the fault, or was taken and given up for it
abbrev pub FailsTaking : BoardFault → SeenBook → SeenBook → Type 0
FailsTaking fault old new = ChangesNothing fault old new ⊎ GivesUpTaken fault old new

-- connections were taken, each left as the front watches it, which led to this book; then one could not be for the fault
pub record TakesUntil (fault : BoardFault) (old new : SeenBook) : Type 0 where
  pub book : SeenBook
  pub takes : TakesSome old book
  pub last : FailsTaking fault book new

-- ## A round

-- what a round did: the late connections that it let go of before and after time passed, the moment to which it passed, the slots
-- that it signalled, the connections that it let go of then, the commands that it did, the children that it let go of, those that it
-- started, and the connections that it took
pub record Round : Type 0 where
  pub early : List Departure
  pub ticks : List ℕ
  pub late : List Departure
  pub signals : List ℕ
  pub departures : Departures
  pub orders : List Commanded
  pub retired : List ℕ
  pub starts : List ℕ
  pub takes : List Intake

-- the events of a round, in order
abbrev pub round_events : Round → List Event
round_events r =
    time_events r.early r.ticks r.late ++ map event.Ready r.signals ++ departures_events r.departures
    ++ map event.Command r.orders ++ map event.Retire r.retired ++ map event.StartChild r.starts ++ flat_map intake_events r.takes

-- none of the commands stops the server
abbrev pub NoneHalts : List Commanded → Type 0
NoneHalts [] = ⊤
NoneHalts (commanded.Graceful shape ∷ orders) = NoneHalts orders
NoneHalts (commanded.Refused reason ∷ orders) = NoneHalts orders
NoneHalts (commanded.GracefulStop until ∷ orders) = NoneHalts orders
NoneHalts (commanded.Stop reason ∷ orders) = ⊥

-- the same of a round, and none of its commands stops the server
pub record AreWays (r : Round) : Type 0 where
  pub early : AllLeftBy IsLateWay r.early
  pub late : AllLeftBy IsLateWay r.late
  pub departures : AreLetGo r.departures
  pub orders : NoneHalts r.orders

-- command lines were done, none of which stops the server, and nothing else was done
pub record DoesOrders (old new : SeenBook) : Type 0 where
  pub orders : List Commanded
  pub none : NoneHalts orders
  pub acts : Acts 0 (map event.Command orders) None old new

-- the same, which led to this book; then a command was refused there for the fault
pub record DoesUntil (fault : BoardFault) (old new : SeenBook) : Type 0 where
  pub does : DoesOrders old new
  pub why : IsRefusedFor fault new

-- a round let time pass to the given moment, signalled each of the given slots that the table has, let go of connections, did what
-- command lines ask for, let go of children, started children, and took connections
pub record GoesRound (to : ℕ) (slots : List ℕ) (old new : SeenBook) : Type 0 where
  pub round : Round
  pub soon : NoneEarly old round.early
  pub ticks : round.ticks ≡ ticks_to old.state.moment to
  pub signals : round.signals ≡ known_slots (length old.base.rows) slots
  pub ways : AreWays round
  pub left : AllLeft round.takes
  pub acts : Acts 0 (round_events round) None old new

-- a round was broken off by a call that was refused for the fault: nothing was done then, or the connection in hand was given up
abbrev pub EndsRound : BoardFault → SeenBook → SeenBook → Type 0
EndsRound fault old new = GivesUpDrained fault old new ⊎ FailsTaking fault old new

-- a round began with that, which led to this book, and was broken off there for the fault
pub record BreaksOff (fault : BoardFault) (to : ℕ) (slots : List ℕ) (old new : SeenBook) : Type 0 where
  pub round : Round
  pub soon : (round.ticks ≡ []) ⊎ NoneEarly old round.early
  pub ticks : IsFrontOf (ticks_to old.state.moment to) round.ticks
  pub signals : IsFrontOf (known_slots (length old.base.rows) slots) round.signals
  pub ways : AreWays round
  pub left : AllLeft round.takes
  pub book : SeenBook
  pub acts : Acts 0 (round_events round) None old book
  pub last : EndsRound fault book new

-- nothing was done behind the command lines: no child was let go of or started, and no connection was taken
pub record EndsWithLines (r : Round) : Type 0 where
  pub retired : r.retired ≡ []
  pub starts : r.starts ≡ []
  pub takes : r.takes ≡ []

-- nothing was done once children were let go of: none was started, and no connection was taken
pub record EndsWithRetiring (r : Round) : Type 0 where
  pub starts : r.starts ≡ []
  pub takes : r.takes ≡ []

-- a round that ended the turns for this, or didn't: where the time of a graceful stop is over nothing was done but that time passed, and late
-- connections were let go of; where a command line asks to stop nothing was done behind that; and where a graceful stop is at its end
-- nothing was done behind the last child
abbrev pub RoundEnds : Option End → ℕ → List ℕ → SeenBook → SeenBook → Type 0
RoundEnds (Some end.Overdue) to slots old new = PassesTime to old new
RoundEnds (Some end.Asked) to slots old new = (goes : GoesRound to slots old new) × EndsWithLines goes.round
RoundEnds (Some end.Gone) to slots old new = (goes : GoesRound to slots old new) × EndsWithRetiring goes.round
RoundEnds other to slots old new = GoesRound to slots old new
