-- What a pass knows between two turns that carries a connection, and what its turns make of it. All of it is said over what the pass has
-- seen, and lasts whatever others do meanwhile.
use Rattle.std.specs.Prelude.{◌≡◌, ◌≢◌, ◌<◌, ℕ, true, List, [], ◌∷◌, Option, None, Some, ⊤}
use Rattle.mpm_base.specs.declared.conn.Ask.{Ask}
use Rattle.mpm_base.specs.declared.conn.Cause.TheVariants as cause
use Rattle.mpm_base.specs.declared.conn.Tail.TheVariants.{Direct}
use Rattle.mpm_base.specs.declared.note.Note.{Note}
use Rattle.conn_machine.specs.declared.event.Event.TheVariants as event
use Rattle.conn_machine.specs.declared.event.Entry.{Entry}
use Rattle.conn_machine.specs.declared.state.State.{State}
use Rattle.conn_machine.specs.Rows.{is_queued, lives_and}
use Rattle.conn_machine.specs.Sound.{IsSound}
use Rattle.conn_machine.specs.States.{is_halted}
use Rattle.conn_state.specs.declared.turn.LastLinger.TheVariants as linger
use Rattle.conn_state.specs.declared.turn.LastTurn.TheVariants as last_turn
use Rattle.conn_state.specs.Conn.{SeenConn}
use Rattle.conn_state.specs.Known.{KnownOutside}
use Rattle.conn_state.specs.Turns.{TakesNote}
use Rattle.table_rule.specs.declared.view.View.{View}
use Rattle.board_book.specs.declared.faults.BoardFault.{BoardFault}
use Rattle.board_book.specs.declared.faults.BoardFault.TheVariants as fault
use Rattle.board.specs.Backed.{BacksWait}
use Rattle.board.specs.Editions.{IsOfGeneration}
use Rattle.board_book.specs.Decided.{IsDecided}
use Rattle.board_book.specs.Faults.{IsRefusedFor}
use Rattle.board.specs.Fits.{IsTakenUp, WaitsAs}
use Rattle.worker_group.specs.declared.service.Exit.{Exit}
use Rattle.worker_group.specs.declared.service.Exit.TheVariants as exit
use Rattle.worker_group.specs.InHand.{IsClosable}
use Rattle.worker_group.specs.InHandInside.{IsLingerable, IsServed}
use Rattle.worker_group.specs.ServiceInside.{MayWaitFor}
use Rattle.board_turns.specs.Books.{book_of, state_of}
use Rattle.board_turns.specs.Turns.{HadATurn, HadTurn, state_found}

-- the pass has no turn, isn't the listener's, and has a permit of the child, and no connection
pub record HasPermitOnly (child : ℕ) (v : View) : Type 0 where
  pub turn : v.turn ≡ None
  pub number : v.who.number ≢ 0
  pub hand : v.hand ≡ record { permit = Some child; trying = None }
  pub row : v.row ≡ None

-- the pass has no turn, isn't the listener's, and has a permit of the connection's child and the connection, which is of its generation
pub record Carries (known : Option KnownOutside) (v : View) (c : SeenConn) : Type 0 where
  pub turn : v.turn ≡ None
  pub number : v.who.number ≢ 0
  pub few : c.child < 32
  pub hand : v.hand ≡ record { permit = Some c.child; trying = None }
  pub row : v.row ≡ Some c.name
  pub edition : IsOfGeneration known (book_of v) c.generation c.reader.limits c.site
  pub sound : IsSound (state_of v)

-- the connection is on its way to a worker
pub record IsCarried (known : Option KnownOutside) (v : View) (c : SeenConn) : Type 0 where
  pub carries : Carries known v c
  pub queued : lives_and (λ r. is_queued r.place) (state_of v).rows c.name ≡ true
  pub taken : IsTakenUp (state_of v) c
  pub stays_open : c.linger ≡ linger.Open

-- what is seen of a carrier and the connection that it carries
pub record SeenPair : Type 0 where
  pub view : View
  pub conn : SeenConn

-- a worker serves the connection
pub record Serves (known : Option KnownOutside) (v : View) (c : SeenConn) : Type 0 where
  pub carries : Carries known v c
  pub served : IsServed (state_of v) c

-- what lasts of a refusal for the fault: the server has stopped
abbrev pub Lasts : BoardFault → State → Type 0
Lasts fault.Halted s = is_halted s.going ≡ true
Lasts fault.NoMemory s = ⊤

-- the worker may leave the connection so, by a turn of its own that is still to come: it may wait, as its link backs; it was half-closed behind its last
-- response, and may linger; it may be closed with its link left directly; or it may be given up
abbrev pub MayGo : State → SeenConn → Exit → Type 0
MayGo s c (exit.Park kind) = IsServed s c × WaitsAs kind c × MayWaitFor kind c × BacksWait kind s c
MayGo s c (exit.Linger why) = (why ≡ cause.LastSent) × IsLingerable s cause.LastSent c
MayGo s c (exit.Close why how) = (how ≡ Direct) × IsClosable s why Direct c
MayGo s c (exit.GiveUp f) = IsServed s c × Lasts f s

-- the connection that the pass carries may be left so
pub record LeavesBy (known : Option KnownOutside) (v : View) (c : SeenConn) (way : Exit) : Type 0 where
  pub carries : Carries known v c
  pub may : MayGo (state_of v) c way

-- ## A response

-- the response to what was asked was decided in a turn, of the state that this one found, and the connection took its note
pub record TookResponse (ask : Ask) (old new : View) (c c' : SeenConn) : Type 0 where
  pub found : List Entry
  pub note : Note
  pub turn : HadTurn found (event.Answer c.name ask ∷ []) old new
  pub decided : IsDecided (state_found old found) c.name ask note
  pub takes : TakesNote note c c'

-- memory lacked for the response that was decided: the connection has no note of it
pub record LackedResponse (ask : Ask) (old new : View) (c c' : SeenConn) : Type 0 where
  pub turn : HadATurn (event.Answer c.name ask ∷ []) old new
  pub stands : c' ≡ record c { turn = last_turn.NoMemory }

-- none was decided, since the board refused it for the fault
pub record WasRefused (f : BoardFault) (old new : View) (c c' : SeenConn) : Type 0 where
  pub turn : HadATurn [] old new
  pub why : IsRefusedFor f (book_of new)
  pub stands : c' ≡ c

-- why there is no response to be sent, and how the connection is left then
abbrev pub HadNoResponse : Ask → View → View → SeenConn → SeenConn → Exit → Type 0
HadNoResponse ask old new c c' (exit.Park kind) = ⊥
HadNoResponse ask old new c c' (exit.Linger why) = ⊥
HadNoResponse ask old new c c' (exit.Close why how) =
    (why ≡ cause.NoMemory) × (how ≡ Direct) × LackedResponse ask old new c c'
HadNoResponse ask old new c c' (exit.GiveUp f) = WasRefused f old new c c'
