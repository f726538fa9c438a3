-- A connection whose service ended: it is half-closed, and lingers, or it is closed.
use Rattle.std.proofs.Common.{◌≡◌, ℕ, Bool, true, false, not, ◌&&◌, [], ◌∷◌, None, Some, refl, sym, ap, subst, ◌∙◌, inl, inr}
use Rattle.mpm_base.specs.Link.{LinkTold, after_shut}
use Rattle.mpm_base.specs.Notes.{says_last}
use Rattle.mpm_base.specs.declared.conn.ConnName.{ConnName}
use Rattle.mpm_base.specs.declared.conn.Cause.{Cause}
use Rattle.mpm_base.specs.declared.conn.Cause.TheVariants as cause
use Rattle.mpm_base.specs.declared.conn.Tail.TheVariants as tail
use Rattle.conn_machine.specs.declared.row.Row.{Row}
use Rattle.conn_machine.specs.declared.event.Event.TheVariants as event
use Rattle.conn_machine.specs.declared.state.State.{State}
use Rattle.conn_machine.specs.Rows.{is_lingering, live_row}
use Rattle.conn_machine.specs.States.{is_signalled}
use Rattle.conn_machine.specs.Table.{is_allowed, linger_cause_fits}
use Rattle.conn_machine.specs.Sound.{IsSound}
use Rattle.conn_state.specs.declared.turn.LastTurn.{LastTurn}
use Rattle.conn_state.specs.declared.turn.LastTurn.TheVariants as last_turn
use Rattle.conn_state.specs.declared.turn.LastLinger.{LastLinger}
use Rattle.conn_state.specs.declared.turn.LastLinger.TheVariants as linger
use Rattle.conn_state.specs.Conn.{SeenConn, is_half_closed, is_usable}
use Rattle.conn_state.specs.Answered.{MayLinger, SentAll, SentLast, ShowsLingering, waits_on}
use Rattle.conn_state.specs.Reader.{keeps_none}
use Rattle.conn_state.specs.Turns.{ShutsOn}
use Rattle.board_book.specs.Book.{SeenBook}
use Rattle.board.specs.Board.{SeenBoard}
use Rattle.board.specs.Fits.{Fits}
use Rattle.worker_group.specs.declared.service.Exit.{Exit}
use Rattle.worker_group.specs.declared.service.Exit.TheVariants as exit
use Rattle.worker_group.specs.Acts.{Acts}
use Rattle.worker_group.specs.InHand.{IsInHand, IsClosable}
use Rattle.worker_group.specs.InHandInside.{IsServed, IsLingerable}
use Rattle.worker_group.specs.Service.{EndsOut, ExitsAfter, IsWayOut, left_events, IsLastEnded, IsLetLinger, IsThere}
use Rattle.worker_group.specs.ServiceInside.{MayLeave}
use Rattle.worker_group.proofs.BackedLemmas.{backed-on, stays-there}
use Rattle.worker_group.proofs.ServeLemmas.{closable, rank-map, rises-some, row-decided, served-stays, test-at}

-- ## The half-close

-- it was made, or failed, as the connection says then
pub shuts-as : (c c' : SeenConn) (answer : Bool) → ShutsOn c c' answer → ShutsOn c c' (is_half_closed c'.linger)
shuts-as c c' true shuts = subst (λ (b : Bool). ShutsOn c c' b) (sym (ap is_half_closed shuts.linger)) shuts
shuts-as c c' false shuts = subst (λ (b : Bool). ShutsOn c c' b) (sym (ap is_half_closed shuts.linger)) shuts

-- what a link tells has the rank that it had
shut-rank : (answer : Bool) (t : LinkTold) → (after_shut answer t).rank ≡ t.rank
shut-rank true t = refl
shut-rank false t = refl

-- the connection is the one of its row still
fits-shut : (c c' : SeenConn) (answer : Bool) (r : Row) → ShutsOn c c' answer → Fits c r → Fits c' r
fits-shut c c' answer r shuts fits = record {
  child = shuts.child ∙ fits.child;
  generation = shuts.generation ∙ fits.generation;
  notes = shuts.notes ∙ fits.notes;
  rank = rank-map (after_shut answer) c.told c'.told r.arrival (shut-rank answer) shuts.told fits.rank;
  backed =
      backed-on r.waits c.counts c'.counts (stays-there c.counts.late_reads c'.counts.late_reads shuts.counts.late_reads)
      (stays-there c.counts.late_writes c'.counts.late_writes shuts.counts.late_writes) fits.backed;
}

-- its row is found by its name still
found-shut : (s : State) (c c' : SeenConn) (answer : Bool) (r : Row) → ShutsOn c c' answer → live_row s.rows c.name ≡ Some r
    → live_row s.rows c'.name ≡ Some r
found-shut s c c' answer r shuts found = subst (λ (n : ConnName). live_row s.rows n ≡ Some r) (sym shuts.name) found

-- ## What it shows

-- what was sent last still was
sent-last : (c c' : SeenConn) → c'.pending ≡ c.pending → c'.notes ≡ c.notes → SentLast c → SentLast c'
sent-last c c' pending notes sent =
    record { none_pending = pending ∙ sent.none_pending; says_it = ap says_last notes ∙ sent.says_it }

-- and so was all
sent-all : (c c' : SeenConn) → c'.pending ≡ c.pending → c'.reader ≡ c.reader → SentAll c → SentAll c'
sent-all c c' pending reader sent =
    record { none_pending = pending ∙ sent.none_pending; none_kept = ap keeps_none reader ∙ sent.none_kept }

-- a cause is shown as before
shows-still : (why : Cause) (c c' : SeenConn) → c'.pending ≡ c.pending → c'.notes ≡ c.notes → c'.reader ≡ c.reader → c'.turn ≡ c.turn
    → ShowsLingering why c → ShowsLingering why c'
shows-still cause.ClientDone c c' pending notes reader turn shows = absurd shows
shows-still cause.LastSent c c' pending notes reader turn shows = sent-last c c' pending notes shows
shows-still cause.KeepAliveLate c c' pending notes reader turn shows = sent-all c c' pending reader shows
shows-still cause.ReadLate c c' pending notes reader turn shows = ap waits_on turn ∙ shows
shows-still cause.WriteLate c c' pending notes reader turn shows = tt
shows-still cause.Retiring c c' pending notes reader turn shows = sent-all c c' pending reader shows
shows-still cause.LinkFailed c c' pending notes reader turn shows = absurd shows
shows-still cause.Stopped c c' pending notes reader turn shows = absurd shows
shows-still cause.NoMemory c c' pending notes reader turn shows = absurd shows

-- the half-close changes nothing of that
pub may-linger : (why : Cause) (c c' : SeenConn) (answer : Bool) → ShutsOn c c' answer → MayLinger why c → MayLinger why c'
may-linger why c c' answer shuts may = record {
  usable = ap is_usable shuts.turn ∙ may.usable;
  shows = shows-still why c c' shuts.pending shuts.notes shuts.reader shuts.turn may.shows;
}

-- ## How it is left

-- one that was half-closed may linger
pub shut-lingers : (s : State) (why : Cause) (c c' : SeenConn) → IsInHand s c → is_allowed s (event.Linger c.name why) ≡ true → MayLinger why c
    → ShutsOn c c' true → IsLingerable s why c'
shut-lingers s why c c' hand allowed may shuts = record {
  row = hand.row;
  found = found-shut s c c' true hand.row shuts hand.found;
  fits = fits-shut c c' true hand.row shuts hand.fits;
  allowed = subst (λ (n : ConnName). is_allowed s (event.Linger n why) ≡ true) (sym shuts.name) allowed;
  shut = shuts.linger;
  shows = may-linger why c c' true shuts may;
}

-- one whose half-close failed may be closed for that
pub shut-failed : (s : State) (c c' : SeenConn) → IsInHand s c → ShutsOn c c' false → IsClosable s cause.LinkFailed tail.Direct c'
shut-failed s c c' hand shuts =
    let hand' : IsInHand s c' = record {
      row = hand.row;
      found = found-shut s c c' false hand.row shuts hand.found;
      in_hand = hand.in_hand;
      serves = hand.serves;
      fits = fits-shut c c' false hand.row shuts hand.fits;
      open_side = ap is_half_closed shuts.linger;
    } in
    closable s cause.LinkFailed c' hand' refl (rises-some c.counts.faults c'.counts.faults shuts.counts.faults) hand'.fits.notes

-- one that has to linger may be left so, by how far it is on its way out
pub leaves-out : (b : SeenBook) (why : Cause) (c c' : SeenConn) (last : LastLinger) (way : Exit) → IsInHand b.state c
    → is_allowed b.state (event.Linger c.name why) ≡ true → MayLinger why c → ShutsOn c c' (is_half_closed last) → EndsOut why last way
    → MayLeave b c' way
leaves-out b why c c' linger.Open way hand allowed may shuts out = absurd out
leaves-out b why c c' linger.ShutFailed way hand allowed may shuts out =
    subst (MayLeave b c') (sym out) (shut-failed b.state c c' hand shuts)
leaves-out b why c c' linger.Shut way hand allowed may shuts out =
    subst (MayLeave b c') (sym out) (shut-lingers b.state why c c' hand allowed may shuts)
leaves-out b why c c' linger.Drained way hand allowed may shuts out = absurd out
leaves-out b why c c' linger.Sated way hand allowed may shuts out = absurd out
leaves-out b why c c' linger.NotReady way hand allowed may shuts out = absurd out
leaves-out b why c c' linger.LinkFailed way hand allowed may shuts out = absurd out

-- ## After the last response

-- the last response was sent: the connection may linger for that
pub last-lingers : (s : State) (c : SeenConn) → IsSound s → IsServed s c → says_last c.notes ≡ true
    → is_allowed s (event.Linger c.name cause.LastSent) ≡ true
last-lingers s c sound served last =
    let stays = served-stays s c.name served.row sound served.found served.working in
    let decided = row-decided s c true sound served last in
    test-at s.rows c.name served.row
    (λ (r : Row). not (is_lingering r) && linger_cause_fits s cause.LastSent (is_signalled s c.name.slot) r) served.found
    ∙ (rw (stays, served.working, decided) refl)

-- and shows it
pub last-shows : (s : State) (c : SeenConn) → IsServed s c → c.pending ≡ [] → says_last c.notes ≡ true → MayLinger cause.LastSent c
last-shows s c served pending last =
    record { usable = served.usable; shows = record { none_pending = pending; says_it = last } }

-- and so it is left as its last turn asks
pub exits-out : (c c' : SeenConn) (way : Exit) → c.turn ≡ last_turn.Done → says_last c.notes ≡ true → ShutsOn c c' (is_half_closed c'.linger)
    → EndsOut cause.LastSent c'.linger way → ExitsAfter c'.turn c' way
exits-out c c' way done last shuts out =
    subst (λ (u : LastTurn). ExitsAfter u c' way) (sym (shuts.turn ∙ done)) (out, ap says_last shuts.notes ∙ last)

-- ## Where it is then

-- one that was half-closed lingers in its slot
pub out-there : (why : Cause) (c c' : SeenConn) (b : SeenBoard) → ShutsOn c c' true → IsThere c' b → IsLetLinger why c b
out-there why c c' b shuts there = record {
  shut = c';
  way = exit.Linger why;
  shuts = shuts-as c c' true shuts;
  ends = subst (λ (last : LastLinger). EndsOut why last (exit.Linger why)) (sym shuts.linger) refl;
  stands = there;
}

-- one whose half-close failed ended last
pub out-ended : (why : Cause) (c c' : SeenConn) (b : SeenBoard) → ShutsOn c c' false → IsLastEnded c' cause.LinkFailed tail.Direct b.ended
    → IsLetLinger why c b
out-ended why c c' b shuts ended = record {
  shut = c';
  way = exit.Close cause.LinkFailed tail.Direct;
  shuts = shuts-as c c' false shuts;
  ends = subst (λ (last : LastLinger). EndsOut why last (exit.Close cause.LinkFailed tail.Direct)) (sym shuts.linger) refl;
  stands = ended;
}

-- ## What the pass did

-- the events by another spelling of the name
pub lingers-named : (who : ℕ) (why : Cause) (name name' : ConnName) (a b : SeenBook) → Acts who (event.Linger name' why ∷ []) None a b
    → name' ≡ name → (way : Exit) × IsWayOut why way × Acts who (left_events way name) None a b
lingers-named who why name name' a b acts same =
    (exit.Linger why, inl refl, subst (λ (n : ConnName). Acts who (event.Linger n why ∷ []) None a b) same acts)

-- the same of one whose half-close failed
pub fails-named : (who : ℕ) (why : Cause) (name name' : ConnName) (a b : SeenBook)
    → Acts who (event.Close name' cause.LinkFailed tail.Direct ∷ []) None a b → name' ≡ name
    → (way : Exit) × IsWayOut why way × Acts who (left_events way name) None a b
fails-named who why name name' a b acts same = (
  exit.Close cause.LinkFailed tail.Direct,
  inr refl,
  subst (λ (n : ConnName). Acts who (event.Close n cause.LinkFailed tail.Direct ∷ []) None a b) same acts,
)
