-- How a connection is left: the kind that it waits for, what lasts of a refusal, and what only the listener changes.
use Rattle.std.proofs.Common.{◌≡◌, ◌==◌, ℕ, ◌<◌, not, true, List, [], ◌∷◌, ◌++◌, length, refl, Option, None, Some, slice_set, Result, Ok, Err, OnOk, IfErr, sym, ap, subst, ◌∙◌, inl, inr}
use Rattle.std.proofs.lemmas.List.{get_or-set_same}
use Rattle.std.proofs.lemmas.Option.{slice_get_within}
use Rattle.mpm_base.specs.Link.{after_close}
use Rattle.mpm_base.specs.declared.conn.ConnName.{ConnName}
use Rattle.mpm_base.specs.declared.conn.Ask.{Ask}
use Rattle.mpm_base.specs.declared.conn.Cause.{Cause}
use Rattle.mpm_base.specs.declared.conn.Cause.TheVariants as cause
use Rattle.mpm_base.specs.declared.conn.Kind.{Kind}
use Rattle.mpm_base.specs.declared.conn.Kind.TheVariants.{KeepAlive}
use Rattle.mpm_base.specs.declared.conn.Tail.{Tail}
use Rattle.mpm_base.specs.declared.conn.Tail.TheVariants.{Direct}
use Rattle.mpm_base.specs.declared.note.Note.{Note}
use Rattle.conn_machine.specs.declared.event.Event.TheVariants as event
use Rattle.conn_machine.specs.declared.row.Row.{Row}
use Rattle.conn_machine.specs.declared.state.State.{State}
use Rattle.conn_machine.specs.Rows.{live_row}
use Rattle.conn_machine.specs.States.{is_halted}
use Rattle.conn_state.specs.declared.turn.LastTurn.{LastTurn}
use Rattle.conn_state.specs.declared.turn.LastTurn.TheVariants as last_turn
use Rattle.conn_state.specs.declared.turn.ReadTurn.{ReadTurn}
use Rattle.conn_state.specs.declared.turn.WriteTurn.{WriteTurn}
use Rattle.conn_state.specs.Reader.{keeps_none}
use Rattle.conn_state.specs.Conn.{SeenConn}
use Rattle.conn_state.specs.Answered.{SeenEnded, IsEndOf}
use Rattle.conn_state.specs.Turns.{ReadsOn, WritesOn, after_reading, after_writing}
use Rattle.board_book.specs.declared.faults.BoardFault.{BoardFault}
use Rattle.board_book.specs.declared.faults.BoardFault.TheVariants as fault
use Rattle.board_book.specs.Book.{SeenBook, book_with_entry}
use Rattle.board.specs.Board.{SeenBoard, Agrees, conn_at}
use Rattle.board_book.specs.Faults.{IsRefusedFor}
use Rattle.board.specs.Fits.{IsClosing, NotesEnd}
use Rattle.worker_group.specs.declared.service.Exit.{Exit}
use Rattle.worker_group.specs.declared.service.Exit.TheVariants as exit
use Rattle.worker_group.specs.Acts.{Acts}
use Rattle.worker_group.specs.InHand.{IsClosable}
use Rattle.worker_group.specs.Service.{ExitsAfter, IsGivenUp, IsLastEnded, LeavesConn, IsThere, LeavesRest, RefusalLasts, give_up_events, kept_kind}
use Rattle.worker_group.proofs.BackedLemmas.{backed-on, stays-there}
use Rattle.worker_group.proofs.ServeLemmas.{alive, rank-map}

-- ## What the connection waits for

-- the next request, where it was answered and nothing of one came
pub keeps-alive : (c : SeenConn) → not (length c.notes == 0) ≡ true → keeps_none c.reader ≡ true → KeepAlive ≡ kept_kind c
keeps-alive c noted empty = rw (noted, empty) refl

-- ## Ways out

-- a connection whose response was refused is given up
pub gives-up : (c : SeenConn) (ask : Ask) (fault : BoardFault) → c.turn ≡ last_turn.Asked ask → ExitsAfter c.turn c (exit.GiveUp fault)
gives-up c ask fault asked = subst (λ (u : LastTurn). ExitsAfter u c (exit.GiveUp fault)) (sym asked) (fault, refl)

-- one for whose response memory lacked is closed for that
pub ends-unanswered : (c c' : SeenConn) → c' ≡ record c { turn = last_turn.NoMemory } → ExitsAfter c'.turn c' (exit.Close cause.NoMemory Direct)
ends-unanswered c c' is = subst (λ (x : SeenConn). ExitsAfter x.turn x (exit.Close cause.NoMemory Direct)) (sym is) refl

-- the exits of turns
pub exits-written : (c c' : SeenConn) (answer : WriteTurn) (way : Exit) → WritesOn c c' answer → ExitsAfter (after_writing answer) c' way
    → ExitsAfter c'.turn c' way
exits-written c c' answer way writes exits = subst (λ (u : LastTurn). ExitsAfter u c' way) (sym writes.turn) exits

pub exits-read : (c c' : SeenConn) (answer : ReadTurn) (way : Exit) → ReadsOn c c' answer → ExitsAfter (after_reading answer) c' way
    → ExitsAfter c'.turn c' way
exits-read c c' answer way reads exits = subst (λ (u : LastTurn). ExitsAfter u c' way) (sym reads.turn) exits

-- ## Where the connection is then

-- a connection that was put into its slot is there
pub put-there : (b b' : SeenBoard) (c : SeenConn) (row : Row) → Agrees b → live_row b.book.state.rows c.name ≡ Some row
    → b'.conns ≡ slice_set b.conns c.name.slot (Some c) → IsThere c b'
put-there b b' c row agrees found is =
    let within = slice_get_within b.book.state.rows c.name.slot row (alive b.book.state.rows c.name row found).at in
    let inside : c.name.slot < length b.conns = subst (λ (n : ℕ). c.name.slot < n) (sym agrees.waiting.slots) within in
    ap (λ (conns : List (Option SeenConn)). conn_at conns c.name.slot) is ∙ get_or-set_same b.conns c.name.slot (Some c) None inside

-- a connection that ended last is the last that ended
pub ended-last : (c : SeenConn) (why : Cause) (how : Tail) (e : SeenEnded) (before ended : List SeenEnded) → ended ≡ before ++ e ∷ []
    → IsEndOf c why how e → IsLastEnded c why how ended
ended-last c why how e before ended is ends = record { before = before; last = e; ended_is = is; end_of = ends }

-- it may be closed by the board
pub closing-ended : (s : State) (why : Cause) (how : Tail) (c : SeenConn) (e : SeenEnded) → IsClosable s why how c → IsEndOf c why how e
    → IsClosing s e.name e.cause e.tail e
closing-ended s why how c e may ends = record {
  row = may.row;
  found = ap (live_row s.rows) ends.name ∙ may.found;
  name_is = refl;
  cause = refl;
  tail = refl;
  child = ends.child ∙ may.child;
  generation = ends.generation ∙ may.generation;
  notes =
      subst (λ (w : Cause). NotesEnd w e.notes may.row.notes) (sym ends.cause)
      (subst (λ (ns : List Note). NotesEnd why ns may.row.notes) (sym ends.notes) may.notes);
  rank = rank-map after_close c.told e.told may.row.arrival (λ t. refl) ends.told may.rank;
  backed =
      backed-on may.row.waits c.counts e.counts (stays-there c.counts.late_reads e.counts.late_reads ends.counts.late_reads)
      (stays-there c.counts.late_writes e.counts.late_writes ends.counts.late_writes) may.backed;
}

-- it was left so, by another spelling of what was to be done
pub left-as : (who : ℕ) (out out' : Exit) (c : SeenConn) (a : SeenBook) (b : SeenBoard) → out ≡ out' → LeavesConn who out' c a b → LeavesConn who out c a b
left-as who out out' c a b is left = subst (λ (w : Exit). LeavesConn who w c a b) (sym is) left

-- one that was to wait waits, or was given up
pub park-left : {T : Type 0} (who : ℕ) (kind : Kind) (c : SeenConn) (a : SeenBook) (b : SeenBoard) (r : Result T BoardFault)
    → OnOk r (Acts who (event.Park c.name kind ∷ []) None a b.book) → IfErr r (λ fault. Acts who (give_up_events fault c.name) None a b.book)
    → IfErr r (λ fault. IsRefusedFor fault a) → OnOk r (IsThere c b) → IfErr r (λ fault. IsGivenUp fault c b) → LeavesConn who (exit.Park kind) c a b
park-left who kind c a b (Ok x) parked given why there ended =
    record { way = exit.Park kind; leaves = inl refl; acts = parked; stands = there }
park-left who kind c a b (Err fault) parked given why there ended =
    record { way = exit.GiveUp fault; leaves = inr (fault, refl, why); acts = given; stands = ended }

-- ## What lasts of a refusal

-- the server has stopped still, after a close
pub halted-closed : (who : ℕ) (name : ConnName) (reason : Cause) (how : Tail) (b b' : SeenBook) → is_halted b.state.going ≡ true
    → b' ≡ book_with_entry who (event.Close name reason how) b → RefusalLasts fault.Halted b'
halted-closed who name reason how b b' halted is = ap (λ (v : SeenBook). is_halted v.state.going) is ∙ halted

-- ## What only the listener changes

-- it is as it was after a park
pub rest_parked : (who : ℕ) (name : ConnName) (kind : Kind) (b b' : SeenBook) → b' ≡ book_with_entry who (event.Park name kind) b → LeavesRest b b'
rest_parked who name kind b b' is =
    subst (LeavesRest b) (sym is) (record { moment = refl; accepted = refl; newest = refl; going = refl })

-- after a close
pub rest_closed : (who : ℕ) (name : ConnName) (reason : Cause) (how : Tail) (b b' : SeenBook)
    → b' ≡ book_with_entry who (event.Close name reason how) b → LeavesRest b b'
rest_closed who name reason how b b' is =
    subst (LeavesRest b) (sym is) (record { moment = refl; accepted = refl; newest = refl; going = refl })

-- and after two steps that leave it so
pub rest_more : (a b c : SeenBook) → LeavesRest a b → LeavesRest b c → LeavesRest a c
rest_more a b c before behind = record {
  moment = behind.moment ∙ before.moment;
  accepted = behind.accepted ∙ before.accepted;
  newest = behind.newest ∙ before.newest;
  going = behind.going ∙ before.going;
}
