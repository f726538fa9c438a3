-- The connections that leave the board, and what a call needs and tells of one.
use Rattle.std.proofs.Common.{◌≡◌, ◌⊎◌, inl, inr, ℕ, ◌<◌, Bool, true, false, not, ◌&&◌, ◌||◌, ◌==◌, nat_le, nat_lt, List, length, Option, None, Some, is_some, option_map, option_and_then, slice_get, eq-eqb, eqb-true, refl, sym, ap, subst, ◌∙◌, arith}
use Rattle.std.specs.Bool.{OnTrue}
use Rattle.std.specs.Option.{option_map_or}
use Rattle.std.proofs.Math.ListN.{set}
use Rattle.std.proofs.lemmas.Bool.{and_parts}
use Rattle.mpm_base.specs.declared.conn.ConnName.{ConnName}
use Rattle.mpm_base.specs.declared.conn.Cause.{Cause}
use Rattle.mpm_base.specs.declared.conn.Cause.TheVariants as cause
use Rattle.mpm_base.specs.declared.conn.Kind.{Kind}
use Rattle.mpm_base.specs.declared.conn.Kind.TheVariants.{Reading, KeepAlive, Writing, Linger, ShortLinger}
use Rattle.mpm_base.specs.declared.conn.Ask.{Ask}
use Rattle.mpm_base.specs.declared.note.Note.{Note}
use Rattle.conn_machine.specs.declared.row.Place.{Place}
use Rattle.conn_machine.specs.declared.row.Place.TheVariants.{Vacant, Spent, Held, Parked, Queued, Working}
use Rattle.conn_machine.specs.declared.row.Row.{Row}
use Rattle.conn_machine.specs.declared.event.Event.TheVariants as event
use Rattle.conn_machine.specs.declared.state.State.{State}
use Rattle.conn_machine.specs.Lists.{update}
use Rattle.conn_machine.specs.Rows.{is_parked, is_queued, is_working, is_live, is_lingering, is_from, carried_count, is_live_as, row_where, live_row, lives_and}
use Rattle.conn_machine.specs.Children.{is_stopping}
use Rattle.conn_machine.specs.States.{is_signalled, is_halted, child_of}
use Rattle.conn_machine.specs.Table.{is_allowed, next, may_wait, may_be_held, may_be_queued, linger_cause_fits, parked_row, lingering_row, held_row, queued_row, served_row, note_for, note_made}
use Rattle.conn_machine.specs.Sound.{IsSound}
use Rattle.timeout_queues.specs.Waiting.{ParkedName, IsFree, parked_of, without_name}
use Rattle.conn_state.specs.declared.turn.LastLinger.TheVariants as linger
use Rattle.conn_state.specs.Conn.{SeenConn}
use Rattle.board_book.specs.declared.faults.BoardFault.{BoardFault}
use Rattle.board_book.specs.declared.faults.BoardFault.TheVariants as fault
use Rattle.board_book.specs.Book.{SeenBook}
use Rattle.board_book.specs.Faults.{IsNotTakenFor, IsRefusedFor, accept_fault}
use Rattle.board_book.specs.Finds.{cause_of}
use Rattle.board.specs.Fits.{Fits, IsOnItsWay, IsTakenUp, IsSettledFrom}
use Rattle.board.specs.Board.{SeenBoard, AreHome, IsAtHome, IsHeldHere, conn_at}
use Rattle.board.specs.QueuesInside.{waits_in, queues_of, waits_under}
use Rattle.conn_machine.specs.HistoryLaws.{RowsChangeOneAtATime}
use Rattle.board_book.specs.Decided.{IsDecided}
use Rattle.board.proofs.BoardLemmas.{LivesAs, get-below, lives_as}
use Rattle.board.proofs.QueueLemmas.{is-free, is-parked}
use Rattle.board.proofs.EventLemmas.{home-of, linger-lives, parked-settled, queue-parked}

-- ## A connection that is handed out

-- the row of the name, once it was changed and is still live
pub live_row-update : RowsChangeOneAtATime → (rows : List Row) (name : ConnName) (r : Row) (change : Row → Row) → slice_get rows name.slot ≡ Some r
    → is_live (change r) ≡ true → (change r).life ≡ name.life → live_row (update rows name.slot change) name ≡ Some (change r)
live_row-update law rows name r change at live life =
    let named : is_live_as name (change r) ≡ true = rw (live, eq-eqb (change r).life name.life life) refl in
    rw (law.there rows name.slot r change at) (rw named refl)

-- the connection of a slot of that name is there, and leaves the board as the one of the changed row
pub record IsGiven (s s' : State) (conns : List (Option SeenConn)) (name : ConnName) : Type 0 where
  pub conn : SeenConn
  pub below : name.slot < length conns
  pub has : conn_at conns name.slot ≡ Some conn
  pub name_is : conn.name ≡ name
  pub handed : IsTakenUp s' conn

-- a connection that waits is handed out, where its row stays what it was but for its place
given : RowsChangeOneAtATime → (s s' : State) (conns : List (Option SeenConn)) (name : ConnName) (r : Row) (change : Row → Row) (x : SeenConn)
    → AreHome s.rows conns → slice_get s.rows name.slot ≡ Some r → r.life ≡ name.life → conn_at conns name.slot ≡ Some x
    → IsAtHome name.slot r x → s'.rows ≡ update s.rows name.slot change → is_live (change r) ≡ true → (change r).life ≡ r.life
    → Fits x (change r) → IsSettledFrom (change r).from (change r).cause x → IsGiven s s' conns name
given law s s' conns name r change x are at life has home rows_is live life' fits settled =
    let name_is : x.name ≡ name = home.name ∙ ap (λ (n : ℕ). (let m : ConnName = record { slot = name.slot; life = n } in m)) life in
    let found : live_row s'.rows name ≡ Some (change r) =
    ap (λ (rows : List Row). live_row rows name) rows_is ∙ live_row-update law s.rows name r change at live (life' ∙ life) in
    record {
      conn = x;
      below = omega (arith, get-below s.rows name.slot r at, are.slots);
      has = has;
      name_is = name_is;
      handed = record {
        row = change r;
        found = subst (λ (n : ConnName). live_row s'.rows n ≡ Some (change r)) (sym name_is) found;
        fits = fits;
        settled = settled;
      };
    }

-- so the connection that is given is that one
pub given_is : (s s' : State) (conns : List (Option SeenConn)) (name : ConnName) (x : SeenConn) → (given : IsGiven s s' conns name)
    → conn_at conns name.slot ≡ Some x → given.conn ≡ x
given_is s s' conns name x given has = cc (given.has, has)

-- what the listener may take waits for something
hold-parked : (s : State) (signalled : Bool) (r : Row) → may_be_held s signalled r ≡ true → is_parked r.place ≡ true
hold-parked s signalled r may =
    (and_parts (is_parked r.place) (nat_le r.deadline s.moment
    || (is_from KeepAlive r && is_stopping (child_of s r).phase && not signalled)
    || (is_lingering r && signalled)
    || is_halted s.going) may).0

-- the listener is given the connection
pub hold-given : RowsChangeOneAtATime → (s : State) (name : ConnName) (conns : List (Option SeenConn)) → IsSound s → is_allowed s (event.Hold name) ≡ true
    → AreHome s.rows conns → IsGiven s (next s (event.Hold name)) conns name
hold-given law s name conns sound may are =
    let lives = lives_as s.rows name (may_be_held s (is_signalled s name.slot)) may in
    let r = lives.row in
    let parked = hold-parked s (is_signalled s name.slot) r lives.passes in
    let here = home-of s.rows conns name.slot r are lives.at parked in
    let fits = here.2.fits in
    given law s (next s (event.Hold name)) conns name r held_row here.0 are lives.at lives.life here.1 here.2 refl refl refl
    (record { child = fits.child; generation = fits.generation; notes = fits.notes; rank = fits.rank; backed = fits.backed })
    (parked-settled r.place r here.0 parked (sound.kinds name.slot r lives.at lives.live) here.2.here)

-- the worker of a queue is given the connection
pub queue-given : RowsChangeOneAtATime → (s : State) (name : ConnName) (conns : List (Option SeenConn)) → IsSound s → is_allowed s (event.Queue name) ≡ true
    → AreHome s.rows conns → IsGiven s (next s (event.Queue name)) conns name
queue-given law s name conns sound may are =
    let lives = lives_as s.rows name (may_be_queued s)
    (and_parts (not (is_halted s.going) && is_signalled s name.slot) (lives_and (may_be_queued s) s.rows name) may).1 in
    let r = lives.row in
    let parked = queue-parked s r lives.passes in
    let here = home-of s.rows conns name.slot r are lives.at parked in
    let fits = here.2.fits in
    given law s (next s (event.Queue name)) conns name r queued_row here.0 are lives.at lives.life here.1 here.2 refl refl refl
    (record { child = fits.child; generation = fits.generation; notes = fits.notes; rank = fits.rank; backed = fits.backed })
    (parked-settled r.place r here.0 parked (sound.kinds name.slot r lives.at lives.live) here.2.here)

-- ## The timeout queues

-- a name that was parked stands there no more
unparked : (queues queues' : List (Option ParkedName)) (rows : List Row) (name : ConnName) (r : Row) (found : Bool)
    → queues ≡ queues_of rows → live_row rows name ≡ Some r → is_parked r.place ≡ true
    → found ≡ is_some (parked_of queues name) → OnTrue found (queues' ≡ without_name queues name) → queues' ≡ set queues name.slot None
unparked queues queues' rows name r true queued at parked is gone = gone
unparked queues queues' rows name r false queued at parked is gone =
    let has = is-parked queues rows name r queued at parked in
    absurd (cc (is, has))

-- a row that is held is in the queues no more
pub hold-unparked : (s : State) (name : ConnName) (queues queues' : List (Option ParkedName)) (found : Bool)
    → is_allowed s (event.Hold name) ≡ true → queues ≡ queues_of s.rows
    → found ≡ is_some (parked_of queues name) → OnTrue found (queues' ≡ without_name queues name) → queues' ≡ set queues name.slot None
hold-unparked s name queues queues' found may queued is gone =
    let lives = lives_as s.rows name (may_be_held s (is_signalled s name.slot)) may in
    unparked queues queues' s.rows name lives.row found queued lives.found (hold-parked s (is_signalled s name.slot) lives.row lives.passes) is gone

-- nor is one that is queued
pub queue-unparked : (s : State) (name : ConnName) (queues queues' : List (Option ParkedName)) (found : Bool)
    → is_allowed s (event.Queue name) ≡ true → queues ≡ queues_of s.rows
    → found ≡ is_some (parked_of queues name) → OnTrue found (queues' ≡ without_name queues name) → queues' ≡ set queues name.slot None
queue-unparked s name queues queues' found may queued is gone =
    let lives = lives_as s.rows name (may_be_queued s)
    (and_parts (not (is_halted s.going) && is_signalled s name.slot) (lives_and (may_be_queued s) s.rows name) may).1 in
    unparked queues queues' s.rows name lives.row found queued lives.found (queue-parked s lives.row lives.passes) is gone

-- what may wait doesn't wait yet
wait-away : (moment : ℕ) (kind : Kind) (r : Row) (p : Place) → r.place ≡ p → may_wait moment kind r ≡ true → is_parked p ≡ false
wait-away moment Reading r (Parked now) at may = let never : false ≡ true = rw at at may in absurd (cc)
wait-away moment KeepAlive r (Parked now) at may = let never : false ≡ true = rw at at may in absurd (cc)
wait-away moment Writing r (Parked now) at may = let never : false ≡ true = rw at at may in absurd (cc)
wait-away moment Linger r (Parked now) at may = let never : false ≡ true = rw at at may in absurd (cc)
wait-away moment ShortLinger r (Parked now) at may = let never : false ≡ true = rw at at may in absurd (cc)
wait-away moment kind r Vacant at may = refl
wait-away moment kind r Spent at may = refl
wait-away moment kind r Held at may = refl
wait-away moment kind r Queued at may = refl
wait-away moment kind r (Working cell phase) at may = refl

-- so it isn't in the queues
pub park-free : (s : State) (name : ConnName) (kind : Kind) (queues : List (Option ParkedName)) → is_allowed s (event.Park name kind) ≡ true
    → queues ≡ queues_of s.rows → IsFree queues name.slot
park-free s name kind queues may queued =
    let lives = lives_as s.rows name (may_wait s.moment kind) (and_parts (not (is_halted s.going)) (lives_and (may_wait s.moment kind) s.rows name) may).1 in
    is-free queues s.rows name.slot lives.row queued lives.at (wait-away s.moment kind lives.row lives.row.place refl lives.passes)

-- once it waits, its row says what stands there
pub park-parked : RowsChangeOneAtATime → (s : State) (name : ConnName) (kind : Kind) (r : Row) → is_allowed s (event.Park name kind) ≡ true
    → live_row s.rows name ≡ Some r → waits_under (next s (event.Park name kind)).rows name ≡ waits_in (parked_row s kind r)
park-parked law s name kind r may found =
    let lives = lives_as s.rows name (may_wait s.moment kind) (and_parts (not (is_halted s.going)) (lives_and (may_wait s.moment kind) s.rows name) may).1 in
    let same : lives.row ≡ r = cc (lives.found, found) in
    ap (option_and_then waits_in) (live_row-update law s.rows name lives.row (parked_row s kind) lives.at refl lives.life)
    ∙ ap (λ (x : Row). waits_in (parked_row s kind x)) same

-- what may linger doesn't wait yet
linger-away : (s : State) (why : Cause) (signalled : Bool) (r : Row) (p : Place) → r.place ≡ p → linger_cause_fits s why signalled r ≡ true
    → is_parked p ≡ false
linger-away s cause.ClientDone signalled r (Parked now) at may = absurd (cc)
linger-away s cause.LastSent signalled r (Parked now) at may = let never : false ≡ true = rw at at may in absurd (cc)
linger-away s cause.KeepAliveLate signalled r (Parked now) at may = let never : false ≡ true = rw at at may in absurd (cc)
linger-away s cause.ReadLate signalled r (Parked now) at may = let never : false ≡ true = rw at at may in absurd (cc)
linger-away s cause.WriteLate signalled r (Parked now) at may = let never : false ≡ true = rw at at may in absurd (cc)
linger-away s cause.Retiring signalled r (Parked now) at may = let never : false ≡ true = rw at at may in absurd (cc)
linger-away s cause.LinkFailed signalled r (Parked now) at may = absurd (cc)
linger-away s cause.Stopped signalled r (Parked now) at may = absurd (cc)
linger-away s cause.NoMemory signalled r (Parked now) at may = absurd (cc)
linger-away s why signalled r Vacant at may = refl
linger-away s why signalled r Spent at may = refl
linger-away s why signalled r Held at may = refl
linger-away s why signalled r Queued at may = refl
linger-away s why signalled r (Working cell phase) at may = refl

-- so it isn't in the queues
pub linger-free : (s : State) (name : ConnName) (why : Cause) (queues : List (Option ParkedName)) → is_allowed s (event.Linger name why) ≡ true
    → queues ≡ queues_of s.rows → IsFree queues name.slot
linger-free s name why queues may queued =
    let lives = linger-lives s name why may in
    let fits = (and_parts (not (is_lingering lives.row)) (linger_cause_fits s why (is_signalled s name.slot) lives.row) lives.passes).1 in
    is-free queues s.rows name.slot lives.row queued lives.at
    (linger-away s why (is_signalled s name.slot) lives.row lives.row.place refl fits)

-- once it lingers, its row says what stands there
pub linger-parked : RowsChangeOneAtATime → (s : State) (name : ConnName) (why : Cause) (r : Row) → is_allowed s (event.Linger name why) ≡ true
    → live_row s.rows name ≡ Some r → waits_under (next s (event.Linger name why)).rows name ≡ waits_in (lingering_row s why r)
linger-parked law s name why r may found =
    let lives = linger-lives s name why may in
    let same : lives.row ≡ r = cc (lives.found, found) in
    ap (option_and_then waits_in) (live_row-update law s.rows name lives.row (lingering_row s why) lives.at refl lives.life)
    ∙ ap (λ (x : Row). waits_in (lingering_row s why x)) same

-- why a row lingers is told under its name
pub cause-found : (s : State) (name : ConnName) (r : Row) → live_row s.rows name ≡ Some r → cause_of s name ≡ r.cause
cause-found s name r found = ap (option_and_then (λ (x : Row). x.cause)) found

-- what waits is as far on its way out as its row says
way-at : (p : Place) (r : Row) (c : SeenConn) → IsHeldHere p r c → IsOnItsWay r.cause c
way-at (Parked kind) r c here = here.way
way-at p r c here = absurd here

-- what is not so is false
not-false : (b : Bool) → not b ≡ true → b ≡ false
not-false true is = absurd (cc)
not-false false is = refl

-- a row that doesn't linger has no cause
no-cause : (o : Option Cause) → is_some o ≡ false → o ≡ None
no-cause None not = refl
no-cause (Some why) not = absurd (cc)

-- so the connection that is handed to a worker is open
pub queue-open : (s : State) (name : ConnName) (conns : List (Option SeenConn)) (x : SeenConn) → is_allowed s (event.Queue name) ≡ true
    → AreHome s.rows conns → conn_at conns name.slot ≡ Some x → x.linger ≡ linger.Open
queue-open s name conns x may are has =
    let lives = lives_as s.rows name (may_be_queued s)
    (and_parts (not (is_halted s.going) && is_signalled s name.slot) (lives_and (may_be_queued s) s.rows name) may).1 in
    let r = lives.row in
    let parts = and_parts (is_parked r.place && not (is_lingering r)) (nat_lt (carried_count s.rows r.child) (child_of s r).shape.threads) lives.passes in
    let stays = (and_parts (is_parked r.place) (not (is_lingering r)) parts.0).1 in
    let here = home-of s.rows conns name.slot r are lives.at (queue-parked s r lives.passes) in
    let same : here.0 ≡ x = cc (here.1, has) in
    subst (IsOnItsWay None) same
    (subst (λ (o : Option Cause). IsOnItsWay o here.0) (no-cause r.cause (not-false (is_lingering r) stays)) (way-at r.place r here.0 here.2.here))

-- and the one that the listener takes is as far on its way out as its row says
pub hold-way : (s : State) (name : ConnName) (conns : List (Option SeenConn)) (x : SeenConn) → is_allowed s (event.Hold name) ≡ true
    → AreHome s.rows conns → conn_at conns name.slot ≡ Some x → IsOnItsWay (cause_of s name) x
hold-way s name conns x may are has =
    let lives = lives_as s.rows name (may_be_held s (is_signalled s name.slot)) may in
    let r = lives.row in
    let parked = hold-parked s (is_signalled s name.slot) r lives.passes in
    let here = home-of s.rows conns name.slot r are lives.at parked in
    let same : here.0 ≡ x = cc (here.1, has) in
    subst (λ (o : Option Cause). IsOnItsWay o x) (sym (cause-found s name r lives.found))
    (subst (IsOnItsWay r.cause) same (way-at r.place r here.0 here.2.here))

-- ## A connection that was handed out

-- what the row of a name was, and is after one row was changed to another live one of that life
changed_row : RowsChangeOneAtATime → (rows : List Row) (name : ConnName) (r : Row) (change : Row → Row) (other : ConnName) (row : Row) → slice_get rows name.slot ≡ Some r
    → is_live (change r) ≡ true → (change r).life ≡ r.life → live_row rows other ≡ Some row → (same : Bool) → (other.slot == name.slot) ≡ same
    → ((row ≡ r) × (live_row (update rows name.slot change) other ≡ Some (change r))) ⊎ (live_row (update rows name.slot change) other ≡ Some row)
changed_row law rows name r change other row at live life found true is =
    let slot : other.slot ≡ name.slot = eqb-true other.slot name.slot is in
    let there : LivesAs rows other (λ (x : Row). true) = lives_as rows other (λ (x : Row). true) (ap (λ (o : Option Row). option_map_or (λ (x : Row). true) o false) found) in
    let row_is : there.row ≡ row = cc (there.found, found) in
    let at' : slice_get rows other.slot ≡ Some r = ap (λ (n : ℕ). slice_get rows n) slot ∙ at in
    let r_is : there.row ≡ r = cc (there.at, at') in
    let life' : (change r).life ≡ other.life = life ∙ ap (λ (x : Row). x.life) (sym r_is) ∙ there.life in
    inl (
      sym row_is ∙ r_is,
      subst (λ (n : ℕ). live_row (update rows n change) other ≡ Some (change r)) slot
          (live_row-update law rows other r change at' live life'),
    )
changed_row law rows name r change other row at live life found false is =
    let differs : (other.slot ≡ name.slot → ⊥) = (λ (e : other.slot ≡ name.slot). let eq : (other.slot == name.slot) ≡ true = eq-eqb other.slot name.slot e in cc) in
    inr (ap (row_where (is_live_as other)) (law.others rows name.slot other.slot change differs) ∙ found)

-- a connection that was handed out stays so while a worker begins to serve one
pub start-taken : RowsChangeOneAtATime → (s : State) (name : ConnName) (c : SeenConn) → is_allowed s (event.Start name) ≡ true → IsTakenUp s c
    → IsTakenUp (next s (event.Start name)) c
start-taken law s name c may taken =
    let lives = lives_as s.rows name (λ (r : Row). is_queued r.place) may in
    elim (changed_row law s.rows name lives.row (served_row s) c.name taken.row lives.at refl refl taken.found (c.name.slot == name.slot) refl) [
      | inl own ↦
          let fits = subst (Fits c) own.0 taken.fits in
          record {
            row = served_row s lives.row;
            found = own.1;
            fits = record { child = fits.child; generation = fits.generation; notes = fits.notes; rank = fits.rank; backed = fits.backed };
            settled = subst (λ (r : Row). IsSettledFrom r.from r.cause c) own.0 taken.settled;
          }
      | inr other ↦ record { row = taken.row; found = other; fits = taken.fits; settled = taken.settled }
    ]

-- ## A response

-- the note that is answered is that of the row
pub answer-note : (s : State) (name : ConnName) (ask : Ask) (note : Note) → is_allowed s (event.Answer name ask) ≡ true
    → ((r : Row) → slice_get s.rows name.slot ≡ Some r → note ≡ note_for s name.slot ask r) → IsDecided s name ask note
answer-note s name ask note may is =
    let lives = lives_as s.rows name (λ (r : Row). is_working r.place && not r.last)
    (and_parts (not (is_halted s.going)) (lives_and (λ (r : Row). is_working r.place && not r.last) s.rows name) may).1 in
    record { row = lives.row; found = lives.found; note_is = is lives.row lives.at }

-- a response that is decided has its note
pub note-there : (s : State) (name : ConnName) (ask : Ask) → is_allowed s (event.Answer name ask) ≡ true
    → (r : Row) × (slice_get s.rows name.slot ≡ Some r)
note-there s name ask may =
    let lives = lives_as s.rows name (λ (r : Row). is_working r.place && not r.last)
    (and_parts (not (is_halted s.going)) (lives_and (λ (r : Row). is_working r.place && not r.last) s.rows name) may).1 in
    (lives.row, lives.at)

made-at : (note : Note) (f : Row → Note) (r : Row) (o : Option Row) → o ≡ Some r → Some note ≡ option_map f o → note ≡ f r
made-at note f r None at is = absurd (cc)
made-at note f r (Some q) at is = cc

none-at-all : (f : Row → Note) (r : Row) (o : Option Row) → o ≡ Some r → None ≡ option_map f o → ⊥
none-at-all f r None at is = absurd (cc)
none-at-all f r (Some q) at is = absurd (cc)

-- the note that is made is that of the row
pub made-note : (s : State) (name : ConnName) (ask : Ask) (note : Note) → is_allowed s (event.Answer name ask) ≡ true
    → Some note ≡ note_made s (event.Answer name ask) → IsDecided s name ask note
made-note s name ask note may is =
    answer-note s name ask note may (λ r at. made-at note (note_for s name.slot ask) r (slice_get s.rows name.slot) at is)

-- and one is made
pub none-made : (s : State) (name : ConnName) (ask : Ask) → is_allowed s (event.Answer name ask) ≡ true
    → None ≡ note_made s (event.Answer name ask) → ⊥
none-made s name ask may is =
    let (r, at) = note-there s name ask may in
    none-at-all (note_for s name.slot ask) r (slice_get s.rows name.slot) at is

-- ## A refusal

-- what a call that takes a connection answers for a refusal is the reason of that
not_taken_at : (f : BoardFault) (b : SeenBook) → IsRefusedFor f b → IsNotTakenFor (accept_fault f) b
not_taken_at fault.Halted b refused = refused
not_taken_at fault.NoMemory b refused = refused

-- the same of the board from outside
pub not_taken_for : (f : BoardFault) (seen b : SeenBoard) → seen ≡ b → IsRefusedFor f seen.book → IsNotTakenFor (accept_fault f) b.book
not_taken_for f seen b is refused = subst (λ (v : SeenBoard). IsNotTakenFor (accept_fault f) v.book) is (not_taken_at f seen.book refused)
