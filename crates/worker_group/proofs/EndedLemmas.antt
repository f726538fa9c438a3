-- For which cause a service ends a connection, by its last turn.
use Rattle.std.proofs.Common.{◌≡◌, ◌⊎◌, ℕ, List, inl, inr, refl, sym, subst}
use Rattle.mpm_base.specs.declared.conn.Cause.{Cause}
use Rattle.mpm_base.specs.declared.conn.Cause.TheVariants as cause
use Rattle.mpm_base.specs.declared.conn.ConnName.{ConnName}
use Rattle.mpm_base.specs.declared.conn.Kind.{Kind}
use Rattle.mpm_base.specs.declared.conn.Tail.{Tail}
use Rattle.mpm_base.specs.declared.conn.Tail.TheVariants.{Direct}
use Rattle.conn_state.specs.declared.turn.LastTurn.{LastTurn}
use Rattle.conn_state.specs.declared.turn.LastTurn.TheVariants as last_turn
use Rattle.conn_state.specs.declared.turn.LastLinger.{LastLinger}
use Rattle.conn_state.specs.declared.turn.LastLinger.TheVariants as linger
use Rattle.conn_state.specs.Conn.{SeenConn}
use Rattle.conn_state.specs.Answered.{SeenEnded}
use Rattle.board_book.specs.declared.faults.BoardFault.{BoardFault}
use Rattle.board_book.specs.declared.faults.BoardFault.TheVariants as fault
use Rattle.board_book.specs.Book.{SeenBook}
use Rattle.board.specs.Board.{SeenBoard}
use Rattle.worker_group.specs.declared.service.Exit.{Exit}
use Rattle.worker_group.specs.declared.service.Exit.TheVariants as exit
use Rattle.worker_group.specs.Service.{EndsAsLast, EndsFor, EndsOut, ExitsAfter, HasServed, IsEnding, IsLastEnded, Leaves, StandsThen, given_up_cause}

-- ## The cause

-- one that had to linger ends where its half-close failed
out-ends : (last : LastLinger) (why : Cause) (how : Tail) → EndsOut cause.LastSent last (exit.Close why how) → EndsFor last_turn.Done last why
out-ends linger.Open why how out = absurd out
out-ends linger.ShutFailed why how out = (refl, cc)
out-ends linger.Shut why how out = absurd (cc)
out-ends linger.Drained why how out = absurd out
out-ends linger.Sated why how out = absurd out
out-ends linger.NotReady why how out = absurd out
out-ends linger.LinkFailed why how out = absurd out

-- and is neither parked nor given up
out-parks : (last : LastLinger) (kind : Kind) → EndsOut cause.LastSent last (exit.Park kind) → ⊥
out-parks linger.Open kind out = out
out-parks linger.ShutFailed kind out = absurd (cc)
out-parks linger.Shut kind out = absurd (cc)
out-parks linger.Drained kind out = out
out-parks linger.Sated kind out = out
out-parks linger.NotReady kind out = out
out-parks linger.LinkFailed kind out = out

out-gives : (last : LastLinger) (f : BoardFault) → EndsOut cause.LastSent last (exit.GiveUp f) → ⊥
out-gives linger.Open f out = out
out-gives linger.ShutFailed f out = absurd (cc)
out-gives linger.Shut f out = absurd (cc)
out-gives linger.Drained f out = out
out-gives linger.Sated f out = out
out-gives linger.NotReady f out = out
out-gives linger.LinkFailed f out = out

-- one that was to end ends for what its last turn found
closes-for : (u : LastTurn) (c : SeenConn) (why : Cause) (how : Tail) → ExitsAfter u c (exit.Close why how) → EndsFor u c.linger why
closes-for last_turn.New c why how exits = absurd exits
closes-for (last_turn.Asked ask) c why how exits =
    let gives = exits.1 in
    absurd (cc)
closes-for last_turn.Interim c why how exits = absurd exits
closes-for last_turn.Answered c why how exits = absurd exits
closes-for last_turn.More c why how exits = absurd (cc)
closes-for last_turn.Gone c why how exits = cc
closes-for last_turn.Done c why how exits = out-ends c.linger why how exits.0
closes-for last_turn.NotReady c why how exits = absurd (cc)
closes-for last_turn.LinkFailed c why how exits = cc
closes-for last_turn.NoMemory c why how exits = cc

-- the causes of one that is given up
given-causes : (f : BoardFault) → (given_up_cause f ≡ cause.Stopped) ⊎ (given_up_cause f ≡ cause.NoMemory)
given-causes fault.Halted = inl refl
given-causes fault.NoMemory = inr refl

-- one that was to wait may be given up
parks-for : (u : LastTurn) (c : SeenConn) (kind : Kind) (f : BoardFault) → ExitsAfter u c (exit.Park kind) → EndsFor u c.linger (given_up_cause f)
parks-for last_turn.New c kind f exits = absurd exits
parks-for (last_turn.Asked ask) c kind f exits = given-causes f
parks-for last_turn.Interim c kind f exits = absurd exits
parks-for last_turn.Answered c kind f exits = absurd exits
parks-for last_turn.More c kind f exits = given-causes f
parks-for last_turn.Gone c kind f exits = absurd (cc)
parks-for last_turn.Done c kind f exits = absurd (out-parks c.linger kind exits.0)
parks-for last_turn.NotReady c kind f exits = given-causes f
parks-for last_turn.LinkFailed c kind f exits = absurd (cc)
parks-for last_turn.NoMemory c kind f exits = absurd (cc)

-- and so may one whose response was refused
gives-for : (u : LastTurn) (c : SeenConn) (g f : BoardFault) → ExitsAfter u c (exit.GiveUp g) → EndsFor u c.linger (given_up_cause f)
gives-for last_turn.New c g f exits = absurd exits
gives-for (last_turn.Asked ask) c g f exits = given-causes f
gives-for last_turn.Interim c g f exits = absurd exits
gives-for last_turn.Answered c g f exits = absurd exits
gives-for last_turn.More c g f exits = given-causes f
gives-for last_turn.Gone c g f exits = absurd (cc)
gives-for last_turn.Done c g f exits = absurd (out-gives c.linger g exits.0)
gives-for last_turn.NotReady c g f exits = given-causes f
gives-for last_turn.LinkFailed c g f exits = absurd (cc)
gives-for last_turn.NoMemory c g f exits = absurd (cc)

-- ## The connection that ended

-- the last that ended shows the turn for which it did
ends-last : (c : SeenConn) (why : Cause) (how : Tail) (ended : List SeenEnded) → IsLastEnded c why how ended → EndsFor c.turn c.linger why
    → EndsAsLast ended
ends-last c why how ended is ends = record {
  before = is.before;
  last = is.last;
  ended_is = is.ended_is;
  ends_for = rw (is.end_of.turn, is.end_of.linger, is.end_of.cause) ends;
}

-- whichever way it was left
ends-left : (way out : Exit) (c : SeenConn) (book : SeenBook) (b : SeenBoard) → ExitsAfter c.turn c out → Leaves book out way → StandsThen way c b
    → IsEnding way → EndsAsLast b.ended
ends-left (exit.Park kind) out c book b exits leaves stands ending = absurd ending
ends-left (exit.Linger why) out c book b exits leaves stands ending = absurd ending
ends-left (exit.Close why how) (exit.Park kind) c book b exits leaves stands ending =
    elim leaves [
      | inl same ↦ absurd (cc)
      | inr given ↦ let same = given.1 in absurd (cc)
    ]
ends-left (exit.Close why how) (exit.Linger why') c book b exits leaves stands ending = absurd (cc)
ends-left (exit.Close why how) (exit.Close why' how') c book b exits leaves stands ending =
    ends-last c why how b.ended stands
    (closes-for c.turn c why how (subst (λ (e : Exit). ExitsAfter c.turn c e) (sym leaves) exits))
ends-left (exit.Close why how) (exit.GiveUp f) c book b exits leaves stands ending =
    let same = leaves.0 in
    absurd (cc)
ends-left (exit.GiveUp f) (exit.Park kind) c book b exits leaves stands ending =
    ends-last c (given_up_cause f) Direct b.ended stands (parks-for c.turn c kind f exits)
ends-left (exit.GiveUp f) (exit.Linger why) c book b exits leaves stands ending = absurd (cc)
ends-left (exit.GiveUp f) (exit.Close why how) c book b exits leaves stands ending = absurd (cc)
ends-left (exit.GiveUp f) (exit.GiveUp g) c book b exits leaves stands ending =
    ends-last c (given_up_cause f) Direct b.ended stands (gives-for c.turn c g f exits)

-- of a service
pub service-ends : (who : ℕ) (name : ConnName) (a b : SeenBoard) (served : HasServed who name a b) → IsEnding served.left.way → EndsAsLast b.ended
service-ends who name a b served ending =
    ends-left served.left.way served.out served.served served.book b served.exits served.left.leaves served.left.stands ending
