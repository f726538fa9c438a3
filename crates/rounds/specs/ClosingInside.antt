-- How the listener lets go of connections that wait: the events by which it does, and how it leaves each.
use Rattle.std.specs.Prelude.{◌≡◌, ◌⊎◌, ℕ, ◌+◌, ◌&&◌, not, true, false, List, [], ◌∷◌, count_by, Option, None, Some, ⊤}
use Rattle.std.specs.List.{flat_map}
use Rattle.mpm_base.specs.declared.conn.ConnName.{ConnName}
use Rattle.mpm_base.specs.declared.conn.Cause.{Cause}
use Rattle.mpm_base.specs.declared.conn.Cause.TheVariants as cause
use Rattle.mpm_base.specs.declared.conn.Kind.{Kind}
use Rattle.mpm_base.specs.declared.conn.Kind.TheVariants.{Reading, KeepAlive, Writing, Linger, ShortLinger}
use Rattle.mpm_base.specs.declared.conn.Tail.{Tail}
use Rattle.mpm_base.specs.declared.conn.Tail.TheVariants as tail
use Rattle.conn_machine.specs.Runs.{after}
use Rattle.conn_machine.specs.declared.event.Event.{Event}
use Rattle.conn_machine.specs.declared.event.Event.TheVariants as event
use Rattle.conn_machine.specs.declared.row.Row.{Row}
use Rattle.conn_machine.specs.declared.state.State.{State}
use Rattle.conn_machine.specs.Rows.{is_held, is_linger_kind, is_lingering, is_parked, live_row}
use Rattle.conn_machine.specs.States.{is_overdue}
use Rattle.conn_machine.specs.Table.{next}
use Rattle.conn_state.specs.Answered.{MayLinger}
use Rattle.conn_state.specs.Conn.{SeenConn, is_half_closed}
use Rattle.conn_state.specs.declared.turn.LingerTurn.{LingerTurn}
use Rattle.conn_state.specs.declared.turn.LingerTurn.TheVariants as left
use Rattle.board_book.specs.declared.faults.BoardFault.{BoardFault}
use Rattle.board_book.specs.declared.faults.BoardFault.TheVariants as fault
use Rattle.board_book.specs.Book.{SeenBook}
use Rattle.board_book.specs.Faults.{IsRefusedFor}
use Rattle.board.specs.Fits.{Fits}
use Rattle.worker_group.specs.declared.service.Exit.{Exit}
use Rattle.worker_group.specs.declared.service.Exit.TheVariants as exit
use Rattle.worker_group.specs.Acts.{Acts}
use Rattle.worker_group.specs.Service.{IsWayOut, left_events}
use Rattle.rounds.specs.TableInside.{NoneOverdue}

-- a connection that waited and was held, and how it was left then
pub record Departure : Type 0 where
  pub name : ConnName
  pub way : Exit

-- the events of that
abbrev pub departure_events : Departure → List Event
departure_events l = event.Hold l.name ∷ left_events l.way l.name

-- each of them was left in such a way
abbrev pub AllLeftBy : (Exit → Type 0) → List Departure → Type 0
AllLeftBy Way [] = ⊤
AllLeftBy Way (l ∷ gone) = Way l.way × AllLeftBy Way gone

-- connections that waited were held, each was left in such a way, and nothing else was done
pub record LetsGo (Way : Exit → Type 0) (old new : SeenBook) : Type 0 where
  pub gone : List Departure
  pub ways : AllLeftBy Way gone
  pub acts : Acts 0 (flat_map departure_events gone) None old new

-- the connection of that name, which waited, was held and left in such a way, and nothing else was done
pub record LetsOneGo (Way : Exit → Type 0) (name : ConnName) (old new : SeenBook) : Type 0 where
  pub way : Exit
  pub is_way : Way way
  pub acts : Acts 0 (event.Hold name ∷ left_events way name) None old new

-- the state after the events
abbrev pub state_by : State → List Event → State
state_by s [] = s
state_by s (e ∷ events) = state_by (next s e) events

-- the connection of that name, which was held, lingers for the cause, or was closed where its half-close failed
pub record LetsLinger (why : Cause) (name : ConnName) (old new : SeenBook) : Type 0 where
  pub way : Exit
  pub out : IsWayOut why way
  pub acts : Acts 0 (left_events way name) None old new
  pub state : new.state ≡ state_by old.state (left_events way name)

-- ## Late connections

-- why a connection ends that waited for this, and is late; of one that lingers it isn't asked, as that has its cause
abbrev pub cause_of_late : Kind → Cause
cause_of_late Reading = cause.ReadLate
cause_of_late KeepAlive = cause.KeepAliveLate
cause_of_late Writing = cause.WriteLate
cause_of_late Linger = cause.NoMemory
cause_of_late ShortLinger = cause.NoMemory

-- a late connection lingers, for what it waited for, or was closed where its half-close failed
pub record GoesLate (way : Exit) : Type 0 where
  pub kind : Kind
  pub serves : is_linger_kind kind ≡ false
  pub out : IsWayOut (cause_of_late kind) way

-- a late connection goes so, and one that lingered until then is closed as late
abbrev pub IsLateWay : Exit → Type 0
IsLateWay way = GoesLate way ⊎ ((why : Cause) × (way ≡ exit.Close why tail.Late))

-- where none is late none was let go of
abbrev pub NoneEarly : SeenBook → List Departure → Type 0
NoneEarly old gone = NoneOverdue old.state → gone ≡ []

-- late connections were let go of, none where none was late, and nothing else was done
pub record LetsGoLate (old new : SeenBook) : Type 0 where
  pub lets : LetsGo IsLateWay old new
  pub soon : NoneEarly old lets.gone

-- how many connections are late, those that don't linger yet counted twice: such a one may be late once more, while it lingers
abbrev pub late_weight : State → ℕ
late_weight s =
    count_by (is_overdue s.moment) s.rows + count_by (λ r. is_overdue s.moment r && not (is_lingering r)) s.rows

-- ## Connections of a child that stops

-- one that is kept alive lingers, or was closed where its half-close failed
abbrev pub IsRetiringWay : Exit → Type 0
IsRetiringWay way = IsWayOut cause.Retiring way

-- how many connections wait for service
abbrev pub serving_count : State → ℕ
serving_count s = count_by (λ r. is_parked r.place && not (is_lingering r)) s.rows

-- ## Connections that linger

-- how the link of a connection is left after a turn of lingering; it goes on lingering where more may come
abbrev pub tail_of : LingerTurn → Option Tail
tail_of left.Drained = Some tail.Drained
tail_of left.Sated = Some tail.Sated
tail_of left.NotReady = None
tail_of left.LinkFailed = Some tail.Failed

-- the connection was closed as its last turn of lingering showed
pub record IsDrainedOut (way : Exit) : Type 0 where
  pub why : Cause
  pub how : Tail
  pub turn : LingerTurn
  pub shown : tail_of turn ≡ Some how
  pub way_is : way ≡ exit.Close why how

-- the connection goes on lingering
pub record LingersOnStill (way : Exit) : Type 0 where
  pub kind : Kind
  pub lingers : is_linger_kind kind ≡ true
  pub way_is : way ≡ exit.Park kind

-- a connection that lingers goes on lingering, or was closed so
abbrev pub IsDrainedWay : Exit → Type 0
IsDrainedWay way = LingersOnStill way ⊎ IsDrainedOut way

-- the listener holds the connection, which lingers for the cause: it was half-closed, and shows it
pub record IsLingeringFor (why : Cause) (s : State) (c : SeenConn) : Type 0 where
  pub row : Row
  pub found : live_row s.rows c.name ≡ Some row
  pub held : is_held row.place ≡ true
  pub cause : row.cause ≡ Some why
  pub fits : Fits c row
  pub shut : is_half_closed c.linger ≡ true
  pub shows : MayLinger why c

-- the same of each that was signalled
abbrev pub DrainsSome : SeenBook → SeenBook → Type 0
DrainsSome old new = LetsGo IsDrainedWay old new

-- how the link of a connection that lingers is left, which is given up for the fault
abbrev pub given_up_tail : BoardFault → Tail
given_up_tail fault.Halted = tail.Halted
given_up_tail fault.NoMemory = tail.NoMemory

-- the events by which a connection that lingers for the cause is given up: it is closed
abbrev pub lingering_give_up_events : BoardFault → Cause → ConnName → List Event
lingering_give_up_events fault ending name = event.Close name ending (given_up_tail fault) ∷ []

-- a connection that lingers was held, which led to this book; its further wait was refused there for the fault, and it was given up
pub record GivesUpDrained (fault : BoardFault) (old new : SeenBook) : Type 0 where
  pub name : ConnName
  pub ending : Cause
  pub book : SeenBook
  pub held : Acts 0 (event.Hold name ∷ []) (Some name) old book
  pub state : after book.base book.history ≡ book.state
  pub why : IsRefusedFor fault book
  pub acts : Acts 0 (lingering_give_up_events fault ending name) None book new

-- connections that linger were left so, which led to this book; then one could not wait any more, and was given up for the fault
pub record DrainsUntil (fault : BoardFault) (old new : SeenBook) : Type 0 where
  pub book : SeenBook
  pub drains : DrainsSome old book
  pub last : GivesUpDrained fault book new

-- how many slots are signalled
abbrev pub signal_count : State → ℕ
signal_count s = count_by (λ b. b) s.signals

-- ## Connections that are left when the server has stopped

-- a connection that waits was closed as stopped, and one that lingers for its own cause
abbrev pub IsHaltedWay : Exit → Type 0
IsHaltedWay way = (way ≡ exit.Close cause.Stopped tail.Direct) ⊎ ((why : Cause) × (way ≡ exit.Close why tail.Halted))

-- how many connections wait
abbrev pub parked_count : State → ℕ
parked_count s = count_by (λ r. is_parked r.place) s.rows
