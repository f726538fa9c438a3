-- How the listener lets go of connections that wait: the events by which it does, and how it leaves each.
use Rattle.std.specs.Prelude.{◌≡◌, ◌⊎◌, true, false, List, [], ◌∷◌, ◌++◌, Option, None, Some, ⊤}
use Rattle.std.specs.List.{flat_map}
use Rattle.mpm_base.specs.declared.conn.Cause.{Cause}
use Rattle.mpm_base.specs.declared.conn.Cause.TheVariants as cause
use Rattle.mpm_base.specs.declared.conn.ConnName.{ConnName}
use Rattle.mpm_base.specs.declared.conn.Kind.{Kind}
use Rattle.mpm_base.specs.declared.conn.Kind.TheVariants.{Reading, KeepAlive, Writing, Linger, ShortLinger}
use Rattle.mpm_base.specs.declared.conn.Tail.{Tail}
use Rattle.mpm_base.specs.declared.conn.Tail.TheVariants as tail
use Rattle.conn_machine.specs.declared.event.Event.{Event}
use Rattle.conn_machine.specs.declared.event.Event.TheVariants as event
use Rattle.conn_machine.specs.declared.row.Row.{Row}
use Rattle.conn_machine.specs.declared.state.State.{State}
use Rattle.conn_machine.specs.Rows.{is_held, is_linger_kind, live_row}
use Rattle.conn_state.specs.declared.turn.LingerTurn.{LingerTurn}
use Rattle.conn_state.specs.declared.turn.LingerTurn.TheVariants as left
use Rattle.conn_state.specs.Answered.{MayLinger}
use Rattle.conn_state.specs.Conn.{SeenConn, is_half_closed}
use Rattle.table_rule.specs.declared.view.View.{View}
use Rattle.board_book.specs.declared.faults.BoardFault.{BoardFault}
use Rattle.board_book.specs.declared.faults.BoardFault.TheVariants as fault
use Rattle.board_book.specs.Faults.{IsRefusedFor}
use Rattle.board.specs.Fits.{Fits}
use Rattle.worker_group.specs.declared.service.Exit.{Exit}
use Rattle.worker_group.specs.declared.service.Exit.TheVariants as exit
use Rattle.worker_group.specs.Service.{IsWayOut, left_events}
use Rattle.board_turns.specs.Books.{book_of}
use Rattle.board_turns.specs.Turns.{HadATurn, HadTurns}
use Rattle.listener_parts.specs.Did.{Did}

-- ## Connections that were let go of

-- a connection that waited and was held, and how it was left then
pub record Departure : Type 0 where
  pub name : ConnName
  pub way : Exit

-- the events of that
abbrev pub departure_events : Departure → List Event
departure_events l = event.Hold l.name ∷ left_events l.way l.name

-- the events by which all of these were let go of
abbrev pub gone_events : List Departure → List Event
gone_events gone = flat_map departure_events gone

-- each of them was left in such a way
abbrev pub AllLeftBy : (Exit → Type 0) → List Departure → Type 0
AllLeftBy Way [] = ⊤
AllLeftBy Way (l ∷ gone) = Way l.way × AllLeftBy Way gone

-- connections that waited were held, each was left in such a way, and nothing else was done
pub record LetsGo (Way : Exit → Type 0) (old new : View) : Type 0 where
  pub gone : List Departure
  pub ways : AllLeftBy Way gone
  pub did : Did (gone_events gone) None old new

-- one connection was
pub record LetsOneGo (Way : Exit → Type 0) (old new : View) : Type 0 where
  pub one : Departure
  pub is_way : Way one.way
  pub did : Did (departure_events one) None old new

-- ## Late connections

-- why a connection ends that waited for this, and is late; of one that lingers it isn't asked, as that has its cause
abbrev pub cause_of_late : Kind → Cause
cause_of_late Reading = cause.ReadLate
cause_of_late KeepAlive = cause.KeepAliveLate
cause_of_late Writing = cause.WriteLate
cause_of_late Linger = cause.NoMemory
cause_of_late ShortLinger = cause.NoMemory

-- a late connection lingers, for what it waited for, or was closed where its half-close failed
pub record GoesLate (way : Exit) : Type 0 where
  pub kind : Kind
  pub serves : is_linger_kind kind ≡ false
  pub out : IsWayOut (cause_of_late kind) way

-- one that lingered was closed as late
abbrev pub IsClosedLate : Exit → Type 0
IsClosedLate way = (why : Cause) × (way ≡ exit.Close why tail.Late)

-- a late connection goes so, and one that lingered until then is closed as late
abbrev pub IsLateWay : Exit → Type 0
IsLateWay way = GoesLate way ⊎ IsClosedLate way

-- ## Connections of a child that stops

-- one that is kept alive lingers, or was closed where its half-close failed
abbrev pub IsRetiringWay : Exit → Type 0
IsRetiringWay way = IsWayOut cause.Retiring way

-- ## Connections that linger

-- how the link of a connection is left after a turn of lingering; it goes on lingering where more may come
abbrev pub tail_of : LingerTurn → Option Tail
tail_of left.Drained = Some tail.Drained
tail_of left.Sated = Some tail.Sated
tail_of left.NotReady = None
tail_of left.LinkFailed = Some tail.Failed

-- the connection was closed as its last turn of lingering showed
pub record IsDrainedOut (way : Exit) : Type 0 where
  pub why : Cause
  pub how : Tail
  pub turn : LingerTurn
  pub shown : tail_of turn ≡ Some how
  pub way_is : way ≡ exit.Close why how

-- the connection goes on lingering
pub record LingersOnStill (way : Exit) : Type 0 where
  pub kind : Kind
  pub lingers : is_linger_kind kind ≡ true
  pub way_is : way ≡ exit.Park kind

-- a connection that lingers goes on lingering, or was closed so; one whose time was over when it was held is closed as late: it could not
-- wait any further
abbrev pub IsDrainedWay : Exit → Type 0
IsDrainedWay way = LingersOnStill way ⊎ IsDrainedOut way ⊎ IsClosedLate way

-- the listener holds the connection, which lingers for the cause: it was half-closed, and shows it
pub record IsLingeringFor (why : Cause) (s : State) (c : SeenConn) : Type 0 where
  pub row : Row
  pub found : live_row s.rows c.name ≡ Some row
  pub held : is_held row.place ≡ true
  pub cause : row.cause ≡ Some why
  pub fits : Fits c row
  pub shut : is_half_closed c.linger ≡ true
  pub shows : MayLinger why c

-- how the link of a connection that lingers is left, which is given up for the fault
abbrev pub given_up_tail : BoardFault → Tail
given_up_tail fault.Halted = tail.Halted
given_up_tail fault.NoMemory = tail.NoMemory

-- the events by which a connection that lingers for the cause is given up: it is closed
abbrev pub lingering_give_up_events : BoardFault → Cause → ConnName → List Event
lingering_give_up_events fault ending name = event.Close name ending (given_up_tail fault) ∷ []

-- in a turn the wait of a connection was refused for the fault, of what the pass has seen then, and in a further one these events were made
pub record RefusedWait (fault : BoardFault) (events : List Event) (old new : View) : Type 0 where
  pub between : View
  pub tried : HadATurn [] old between
  pub why : IsRefusedFor fault (book_of between)
  pub made : HadATurn events between new

-- a connection that lingers was held; its further wait was refused, of what the pass had seen then, for the fault, and it was given up
pub record GivesUpDrained (fault : BoardFault) (old new : View) : Type 0 where
  pub name : ConnName
  pub ending : Cause
  pub between : View
  pub held : HadTurns (event.Hold name ∷ []) old between
  pub why : IsRefusedFor fault (book_of between)
  pub closed : HadTurns (lingering_give_up_events fault ending name) between new
  pub row : new.row ≡ None

-- connections that linger were left so; then one could not wait any more, and was given up for the fault
pub record DrainsUntil (fault : BoardFault) (old new : View) : Type 0 where
  pub between : View
  pub drains : LetsGo IsDrainedWay old between
  pub last : GivesUpDrained fault between new

-- ## All three

-- the connections that were let go of behind the signals: those that were kept alive by a child that stops, those that were late at
-- once then, and those that were drained
pub record Departures : Type 0 where
  pub retiring : List Departure
  pub cut : List Departure
  pub drained : List Departure

-- the events by which connections are let go of that retire, or linger
abbrev pub departures_events : Departures → List Event
departures_events l = gone_events l.retiring ++ gone_events l.cut ++ gone_events l.drained

-- each of the connections was left in a way that its part allows
pub record AreLetGo (l : Departures) : Type 0 where
  pub retiring : AllLeftBy IsRetiringWay l.retiring
  pub cut : AllLeftBy IsLateWay l.cut
  pub drained : AllLeftBy IsDrainedWay l.drained

-- connections that retire were let go of, and lingering ones drained
pub record LetsGoOfConns (old new : View) : Type 0 where
  pub departures : Departures
  pub ways : AreLetGo departures
  pub did : Did (departures_events departures) None old new

-- the same, until a lingering one could not wait any more, and was given up for the fault
pub record LetsGoUntil (fault : BoardFault) (old new : View) : Type 0 where
  pub between : View
  pub lets : LetsGoOfConns old between
  pub last : GivesUpDrained fault between new
