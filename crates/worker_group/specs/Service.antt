-- What a worker does with one connection: which events it adds, and how it leaves the connection.
use Rattle.std.specs.Prelude.{◌≡◌, ◌⊎◌, ◌==◌, ◌&&◌, not, ℕ, true, false, List, [], ◌∷◌, ◌++◌, length, map, if◌then◌else◌, None, Some, ⊤}
use Rattle.mpm_base.specs.Count.{NeverFalls, Rises}
use Rattle.mpm_base.specs.Link.{LinkCounts}
use Rattle.mpm_base.specs.Notes.{says_last}
use Rattle.mpm_base.specs.declared.conn.Ask.{Ask}
use Rattle.mpm_base.specs.declared.conn.Kind.{Kind}
use Rattle.mpm_base.specs.declared.conn.Kind.TheVariants.{Reading, KeepAlive, Writing}
use Rattle.mpm_base.specs.declared.conn.ConnName.{ConnName}
use Rattle.mpm_base.specs.declared.conn.Cause.{Cause}
use Rattle.mpm_base.specs.declared.conn.Cause.TheVariants as cause
use Rattle.mpm_base.specs.declared.conn.Tail.{Tail}
use Rattle.mpm_base.specs.declared.conn.Tail.TheVariants.{Direct}
use Rattle.conn_machine.specs.declared.event.Event.{Event}
use Rattle.conn_machine.specs.declared.event.Event.TheVariants as event
use Rattle.conn_machine.specs.declared.state.Going.{Going}
use Rattle.conn_machine.specs.States.{is_halted}
use Rattle.conn_machine.specs.Runs.{after}
use Rattle.conn_state.specs.declared.turn.LastTurn.{LastTurn}
use Rattle.conn_state.specs.declared.turn.LastTurn.TheVariants as last_turn
use Rattle.conn_state.specs.declared.turn.LastLinger.{LastLinger}
use Rattle.conn_state.specs.declared.turn.LastLinger.TheVariants as linger
use Rattle.conn_state.specs.Reader.{keeps_none}
use Rattle.conn_state.specs.Conn.{SeenConn, is_half_closed}
use Rattle.conn_state.specs.Turns.{ShutsOn}
use Rattle.conn_state.specs.Answered.{SeenEnded, IsEndOf}
use Rattle.board_book.specs.declared.faults.BoardFault.{BoardFault}
use Rattle.board_book.specs.declared.faults.BoardFault.TheVariants as fault
use Rattle.board_book.specs.Book.{SeenBook}
use Rattle.board.specs.Board.{SeenBoard, conn_at}
use Rattle.board_book.specs.Faults.{IsRefusedFor}
use Rattle.worker_group.specs.declared.service.Exit.{Exit}
use Rattle.worker_group.specs.declared.service.Exit.TheVariants as exit
use Rattle.worker_group.specs.Acts.{Acts}

-- ## How a connection is left

-- what a connection waits for of which no request came: the next one, where one was answered and no byte of another one read
abbrev pub kept_kind : SeenConn → Kind
kept_kind c = if not (length c.notes == 0) && keeps_none c.reader then KeepAlive else Reading

-- how a connection is left that has to linger for the cause: it lingers where its half-close was made, and else ends
abbrev pub EndsOut : Cause → LastLinger → Exit → Type 0
EndsOut why linger.Open e = ⊥
EndsOut why linger.ShutFailed e = e ≡ exit.Close cause.LinkFailed Direct
EndsOut why linger.Shut e = e ≡ exit.Linger why
EndsOut why linger.Drained e = ⊥
EndsOut why linger.Sated e = ⊥
EndsOut why linger.NotReady e = ⊥
EndsOut why linger.LinkFailed e = ⊥

-- the same, of the way alone
abbrev pub IsWayOut : Cause → Exit → Type 0
IsWayOut why e = (e ≡ exit.Linger why) ⊎ (e ≡ exit.Close cause.LinkFailed Direct)

-- how a worker leaves a connection after its last turn of reading or writing
abbrev pub ExitsAfter : LastTurn → SeenConn → Exit → Type 0
ExitsAfter last_turn.New c e = ⊥
ExitsAfter (last_turn.Asked ask) c e = (fault : BoardFault) × (e ≡ exit.GiveUp fault)
ExitsAfter last_turn.Interim c e = ⊥
ExitsAfter last_turn.Answered c e = ⊥
ExitsAfter last_turn.More c e = e ≡ exit.Park (kept_kind c)
ExitsAfter last_turn.Gone c e = e ≡ exit.Close cause.ClientDone Direct
ExitsAfter last_turn.Done c e = EndsOut cause.LastSent c.linger e × (says_last c.notes ≡ true)
ExitsAfter last_turn.NotReady c e = e ≡ exit.Park Writing
ExitsAfter last_turn.LinkFailed c e = e ≡ exit.Close cause.LinkFailed Direct
ExitsAfter last_turn.NoMemory c e = e ≡ exit.Close cause.NoMemory Direct

-- ## Since it was taken up

-- no count of a link fell
pub record NoneFalls (old new : LinkCounts) : Type 0 where
  pub faults : NeverFalls old.faults new.faults
  pub late_reads : NeverFalls old.late_reads new.late_reads
  pub late_writes : NeverFalls old.late_writes new.late_writes
  pub ends : NeverFalls old.ends new.ends

-- the link counted the turn, where it counts such turns
abbrev pub CountsLast : LastTurn → LinkCounts → LinkCounts → Type 0
CountsLast last_turn.New old new = ⊤
CountsLast (last_turn.Asked ask) old new = ⊤
CountsLast last_turn.Interim old new = ⊤
CountsLast last_turn.Answered old new = ⊤
CountsLast last_turn.More old new = Rises old.late_reads new.late_reads
CountsLast last_turn.Gone old new = Rises old.ends new.ends
CountsLast last_turn.Done old new = ⊤
CountsLast last_turn.NotReady old new = Rises old.late_writes new.late_writes
CountsLast last_turn.LinkFailed old new = Rises old.faults new.faults
CountsLast last_turn.NoMemory old new = ⊤

-- the last turn was made since the link counted so
pub record IsMadeSince (last : LastTurn) (old new : LinkCounts) : Type 0 where
  pub none_falls : NoneFalls old new
  pub counted : CountsLast last old new

-- ## Where the connection is then

-- the board has the connection, in its slot
abbrev pub IsThere : SeenConn → SeenBoard → Type 0
IsThere c b = conn_at b.conns c.name.slot ≡ Some c

-- the last of those that ended is the connection, which ended so
pub record IsLastEnded (c : SeenConn) (why : Cause) (how : Tail)
    (ended : List SeenEnded) : Type 0 where
  pub before : List SeenEnded
  pub last : SeenEnded
  pub ended_is : ended ≡ before ++ last ∷ []
  pub end_of : IsEndOf c why how last

-- why a connection ends that is given up for the fault
abbrev pub given_up_cause : BoardFault → Cause
given_up_cause fault.Halted = cause.Stopped
given_up_cause fault.NoMemory = cause.NoMemory

-- the connection was given up, and is the last of those that ended
abbrev pub IsGivenUp : BoardFault → SeenConn → SeenBoard → Type 0
IsGivenUp fault c b = IsLastEnded c (given_up_cause fault) Direct b.ended

-- where the connection is that was left so: it waits there, or is the last of those that ended
abbrev pub StandsThen : Exit → SeenConn → SeenBoard → Type 0
StandsThen (exit.Park kind) c b = IsThere c b
StandsThen (exit.Linger why) c b = IsThere c b
StandsThen (exit.Close why how) c b = IsLastEnded c why how b.ended
StandsThen (exit.GiveUp fault) c b = IsGivenUp fault c b

-- a connection that had to linger for the cause was half-closed, or that failed, and it was left as it is by that
pub record IsLetLinger (why : Cause) (c : SeenConn) (b : SeenBoard) : Type 0 where
  pub shut : SeenConn
  pub way : Exit
  pub shuts : ShutsOn c shut (is_half_closed shut.linger)
  pub ends : EndsOut why shut.linger way
  pub stands : StandsThen way shut b

-- ## What lasts of a refusal, and of the rest

-- what a refusal for the fault says of the book then: the server has stopped, or memory lacked
abbrev pub RefusalLasts : BoardFault → SeenBook → Type 0
RefusalLasts fault.Halted b = is_halted b.state.going ≡ true
RefusalLasts fault.NoMemory b = ⊤

-- the server has not stopped
abbrev pub IsUp : Going → Type 0
IsUp going = is_halted going ≡ false

-- the moment is as it was, how many connections were taken, which generation is the newest, and how the server goes on. The listener's
-- own calls between two ticks leave this too, but those that take connections or orders, though they start and let go of children and
-- signal slots; what another pass leaves is more (`OnlyServes`)
pub record LeavesRest (old new : SeenBook) : Type 0 where
  pub moment : new.state.moment ≡ old.state.moment
  pub accepted : new.state.accepted ≡ old.state.accepted
  pub newest : new.state.newest ≡ old.state.newest
  pub going : new.state.going ≡ old.state.going

-- ## The events of that

-- the events by which a connection is given up for the fault: it is closed
abbrev pub give_up_events : BoardFault → ConnName → List Event
give_up_events fault name = event.Close name (given_up_cause fault) Direct ∷ []

-- the events by which a connection in hand is left
abbrev pub left_events : Exit → ConnName → List Event
left_events (exit.Park kind) name = event.Park name kind ∷ []
left_events (exit.Linger why) name = event.Linger name why ∷ []
left_events (exit.Close why how) name = event.Close name why how ∷ []
left_events (exit.GiveUp fault) name = give_up_events fault name

-- the events by which responses are decided for what was asked
abbrev pub answer_events : ConnName → List Ask → List Event
answer_events name asks = map (event.Answer name) asks

-- ## The service

-- the connection is given up for a fault, for which a call of the board is refused that has this book
abbrev pub IsGivenUpFor : SeenBook → Exit → Type 0
IsGivenUpFor b way = (fault : BoardFault) × (way ≡ exit.GiveUp fault) × IsRefusedFor fault b

-- the way by which a connection is left at this book that is to be left so: it is given up where its wait is refused, and of one that is
-- to be given up a call was refused
abbrev pub Leaves : SeenBook → Exit → Exit → Type 0
Leaves b (exit.Park kind) way = (way ≡ exit.Park kind) ⊎ IsGivenUpFor b way
Leaves b (exit.Linger why) way = way ≡ exit.Linger why
Leaves b (exit.Close why how) way = way ≡ exit.Close why how
Leaves b (exit.GiveUp fault) way = (way ≡ exit.GiveUp fault) × IsRefusedFor fault b

-- the pass left the connection, which was to be left so: by this way, of which it added the events, and where it stands then
pub record LeavesConn (who : ℕ) (out : Exit) (c : SeenConn) (old : SeenBook)
    (new : SeenBoard) : Type 0 where
  pub way : Exit
  pub leaves : Leaves old out way
  pub acts : Acts who (left_events way c.name) None old new.book
  pub stands : StandsThen way c new

-- the connection of that name, which waited, was served: it was queued and started, and its responses were decided, which led to this
-- book, whose state is the one after its history; then it was left as its last turn asks, which was made since it was taken up
pub record HasServed (who : ℕ) (name : ConnName) (old new : SeenBoard) : Type 0 where
  pub asks : List Ask
  pub book : SeenBook
  pub acts : Acts who (event.Queue name ∷ event.Start name ∷ answer_events name asks) (Some name)
      old.book book
  pub state : after book.base book.history ≡ book.state
  pub taken : SeenConn
  pub waited : conn_at old.conns name.slot ≡ Some taken
  pub served : SeenConn
  pub named : served.name ≡ name
  pub turned : IsMadeSince served.turn taken.counts served.counts
  pub out : Exit
  pub exits : ExitsAfter served.turn served out
  pub left : LeavesConn who out served book new

-- ## What an ended connection tells of its service

-- the connection ends by this way
abbrev pub IsEnding : Exit → Type 0
IsEnding (exit.Park kind) = ⊥
IsEnding (exit.Linger why) = ⊥
IsEnding (exit.Close why how) = ⊤
IsEnding (exit.GiveUp fault) = ⊤

-- a call of the board was refused: for a stop, or for want of memory
abbrev pub IsRefusedCause : Cause → Type 0
IsRefusedCause why = (why ≡ cause.Stopped) ⊎ (why ≡ cause.NoMemory)

-- for which cause a service ends a connection behind such a last turn, as far on its way out
abbrev pub EndsFor : LastTurn → LastLinger → Cause → Type 0
EndsFor last_turn.New last why = ⊥
EndsFor (last_turn.Asked ask) last why = IsRefusedCause why
EndsFor last_turn.Interim last why = ⊥
EndsFor last_turn.Answered last why = ⊥
EndsFor last_turn.More last why = IsRefusedCause why
EndsFor last_turn.Gone last why = why ≡ cause.ClientDone
EndsFor last_turn.Done last why = (last ≡ linger.ShutFailed) × (why ≡ cause.LinkFailed)
EndsFor last_turn.NotReady last why = IsRefusedCause why
EndsFor last_turn.LinkFailed last why = why ≡ cause.LinkFailed
EndsFor last_turn.NoMemory last why = why ≡ cause.NoMemory

-- the last of those that ended tells its cause by its last turn
pub record EndsAsLast (ended : List SeenEnded) : Type 0 where
  pub before : List SeenEnded
  pub last : SeenEnded
  pub ended_is : ended ≡ before ++ last ∷ []
  pub ends_for : EndsFor last.turn last.linger last.cause
