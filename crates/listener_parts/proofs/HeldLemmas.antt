-- A connection that waited and is held: how it may be left, whatever others do meanwhile.
use Rattle.std.proofs.Common.{◌≡◌, ◌==◌, Bool, true, false, not, ◌&&◌, nat_le, cond, Option, None, Some, is_some, refl, sym, ap, subst, ◌∙◌, inl, inr, eq-eqb}
use Rattle.std.specs.Option.{option_and_then, option_map_or}
use Rattle.std.specs.Prelude.{List}
use Rattle.mpm_base.specs.Cause.{cause_number}
use Rattle.mpm_base.specs.declared.conn.Cause.{Cause}
use Rattle.mpm_base.specs.declared.conn.Cause.TheVariants as cause
use Rattle.mpm_base.specs.declared.conn.ConnName.{ConnName}
use Rattle.mpm_base.specs.declared.conn.Kind.{Kind}
use Rattle.mpm_base.specs.declared.conn.Kind.TheVariants.{Reading, KeepAlive, Writing, Linger, ShortLinger}
use Rattle.mpm_base.specs.declared.conn.Tail.{Tail}
use Rattle.mpm_base.specs.declared.conn.Tail.TheVariants as tail
use Rattle.mpm_base.specs.declared.note.Note.{Note}
use Rattle.conn_machine.specs.declared.event.Event.TheVariants as event
use Rattle.conn_machine.specs.declared.row.Row.{Row}
use Rattle.conn_machine.specs.declared.state.State.{State}
use Rattle.conn_machine.specs.Children.{is_stopping}
use Rattle.conn_machine.specs.Rows.{is_from, is_held, is_linger_kind, is_lingering, kind_number, live_row}
use Rattle.conn_machine.specs.States.{child_of, is_halted, is_signalled}
use Rattle.conn_machine.specs.Table.{end_fits, is_allowed, linger_cause_fits, linger_tail_fits}
use Rattle.conn_state.specs.declared.turn.LastLinger.{LastLinger}
use Rattle.conn_state.specs.declared.turn.LastLinger.TheVariants as linger
use Rattle.conn_state.specs.declared.turn.LastTurn.{LastTurn}
use Rattle.conn_state.specs.declared.turn.LastTurn.TheVariants as turn
use Rattle.conn_state.specs.declared.turn.LingerTurn.{LingerTurn}
use Rattle.conn_state.specs.Answered.{IsLeft, MayLinger, SentAll, ShowsCause, waits_on}
use Rattle.conn_state.specs.Conn.{IsConn, IsWaiting, SeenConn, TurnFits, is_half_closed, is_usable, lingers}
use Rattle.conn_state.specs.Known.{KnownOutside}
use Rattle.conn_state.specs.Turns.{LingersOn, ShutsOn}
use Rattle.table_rule.specs.declared.view.View.{View}
use Rattle.board.specs.Editions.{IsOfGeneration}
use Rattle.board.specs.Fits.{IsOnItsWay, IsSettled, LingersFor, NotesEnd, WaitsForNext}
use Rattle.board_book.specs.declared.faults.BoardFault.{BoardFault}
use Rattle.board_book.specs.declared.faults.BoardFault.TheVariants as fault
use Rattle.board_book.specs.Finds.{cause_of}
use Rattle.worker_group.specs.InHand.{IsClosable, IsInHand}
use Rattle.worker_group.proofs.EditionLemmas.{edition-shut}
use Rattle.worker_group.proofs.ServeLemmas.{closable, test-at}
use Rattle.board_turns.specs.Books.{book_of, state_of}
use Rattle.listener_turns.specs.declared.held.Due.{Due}
use Rattle.listener_turns.specs.declared.held.Due.TheVariants as due
use Rattle.listener_turns.specs.Holds.{Holds, HoldsFor}
use Rattle.listener_turns.proofs.ListenerLemmas.{not_set, parts_three}
use Rattle.listener_parts.specs.Letting.{IsLingeringFor, cause_of_late, given_up_tail}

-- ## What it is held for

-- its time is over, and it says so
pub late_by : (known : Option KnownOutside) (v : View) (c : SeenConn) (kind : Kind) (lingered : Option Cause) (late : Bool)
    → (h : HoldsFor due.Late known v c kind lingered late) → nat_le h.row.deadline (state_of v).moment ≡ true
late_by known v c kind lingered late h = h.is_due

-- one that lingers has a cause
lingers-some : (o p : Option Cause) → is_some p ≡ true → p ≡ o → o ≡ None → ⊥
lingers-some o None some same none = absurd (cc)
lingers-some o (Some why) some same none = absurd (cc (same, none))

pub lingering_some : (known : Option KnownOutside) (v : View) (c : SeenConn) (kind : Kind) (lingered : Option Cause) (late : Bool)
    → HoldsFor due.Lingering known v c kind lingered late → lingered ≡ None → ⊥
lingering_some known v c kind lingered late h none = lingers-some lingered h.row.cause h.is_due h.cause_is none

-- ## One that doesn't linger

-- its link was never half-closed
pub held_open : (why : Due) (known : Option KnownOutside) (v : View) (c : SeenConn) (kind : Kind) (lingered : Option Cause) (late : Bool)
    → HoldsFor why known v c kind lingered late → lingered ≡ None → c.linger ≡ linger.Open
held_open why known v c kind lingered late h none = subst (λ (o : Option Cause). IsOnItsWay o c) none h.settled.way

-- it is in hand
pub held_hand : (why : Due) (known : Option KnownOutside) (v : View) (c : SeenConn) (kind : Kind) (lingered : Option Cause) (late : Bool)
    → HoldsFor why known v c kind lingered late → lingered ≡ None → IsInHand (state_of v) c
held_hand why known v c kind lingered late h none = record {
  row = h.row;
  found = h.found;
  in_hand = rw h.held refl;
  serves = ap (λ (o : Option Cause). is_some o) (h.cause_is ∙ none);
  fits = h.fits;
  open_side = ap is_half_closed (held_open why known v c kind lingered late h none);
}

-- it waited for something of its service
pub held_serves : (why : Due) (known : Option KnownOutside) (v : View) (c : SeenConn) (kind : Kind) (lingered : Option Cause) (late : Bool)
    → HoldsFor why known v c kind lingered late → lingered ≡ None → is_linger_kind kind ≡ false
held_serves why known v c kind lingered late h none = h.lingers ∙ ap (λ (o : Option Cause). is_some o) none

-- ## What it shows

-- the law of connections: one of which nothing was read may linger as one that is late with its request
abbrev pub MayBeLate : Type 0
MayBeLate = (c : SeenConn) → c.turn ≡ turn.New → MayLinger cause.ReadLate c

-- one that waits for the next request has sent all, and nothing of it came
waiting_sent : (c : SeenConn) → WaitsForNext c → IsConn c → SentAll c
waiting_sent c waits is =
    let fits : IsWaiting c is.rest = subst (λ (t : LastTurn). TurnFits t c is.rest) waits.turn is.turn_fits in
    record { none_pending = fits.none_pending; none_kept = waits.none_kept }

-- a connection that waited for this shows the cause for which it lingers where it is late
shows_late : MayBeLate → (kind : Kind) (why : Option Cause) (c : SeenConn) → is_linger_kind kind ≡ false → IsSettled kind why c → MayLinger (cause_of_late kind) c
shows_late law Reading why c serves settled =
    elim settled.waits [
      | inl new ↦ law c new
      | inr more ↦ record { usable = ap is_usable more; shows = ap waits_on more }
    ]
shows_late law KeepAlive why c serves settled =
    record { usable = ap is_usable settled.waits.turn; shows = waiting_sent c settled.waits settled.is_conn }
shows_late law Writing why c serves settled = record { usable = ap is_usable settled.waits; shows = tt }
shows_late law Linger why c serves settled = absurd (cc)
shows_late law ShortLinger why c serves settled = absurd (cc)

pub late_shows : MayBeLate → (why : Due) (known : Option KnownOutside) (v : View) (c : SeenConn) (kind : Kind) (lingered : Option Cause) (late : Bool)
    → HoldsFor why known v c kind lingered late → lingered ≡ None → MayLinger (cause_of_late kind) c
late_shows law why known v c kind lingered late h none =
    shows_late law kind lingered c (held_serves why known v c kind lingered late h none) h.settled

-- ## That it may linger

late_fits : (s : State) (kind : Kind) (row : Row) (signalled : Bool) → row.from ≡ Some kind → is_linger_kind kind ≡ false → row.cause ≡ None
    → is_held row.place ≡ true → nat_le row.deadline s.moment ≡ true
    → (not (is_lingering row) && linger_cause_fits s (cause_of_late kind) signalled row) ≡ true
late_fits s Reading row signalled from serves none held late = rw (none, held, from, late) refl
late_fits s KeepAlive row signalled from serves none held late = rw (none, held, from, late) refl
late_fits s Writing row signalled from serves none held late = rw (none, held, from, late) refl
late_fits s Linger row signalled from serves none held late = absurd (cc)
late_fits s ShortLinger row signalled from serves none held late = absurd (cc)

-- a late connection may linger for what it waited for
pub late_lingers : (known : Option KnownOutside) (v : View) (c : SeenConn) (kind : Kind) (lingered : Option Cause) (late : Bool)
    → HoldsFor due.Late known v c kind lingered late → lingered ≡ None → is_allowed (state_of v) (event.Linger c.name (cause_of_late kind)) ≡ true
late_lingers known v c kind lingered late h none =
    let s = state_of v in
    let signalled = is_signalled s c.name.slot in
    test-at s.rows c.name h.row (λ (r : Row). not (is_lingering r) && linger_cause_fits s (cause_of_late kind) signalled r) h.found
    ∙ late_fits s kind h.row signalled h.kind_is (held_serves due.Late known v c kind lingered late h none) (h.cause_is ∙ none) h.held h.is_due

-- ## One whose child stops

-- it was kept alive
from_kept : (o : Option Kind) → option_map_or (λ k. kind_number k == 1) o false ≡ true → o ≡ Some KeepAlive
from_kept None is = absurd (cc)
from_kept (Some Reading) is = absurd (cc)
from_kept (Some KeepAlive) is = refl
from_kept (Some Writing) is = absurd (cc)
from_kept (Some Linger) is = absurd (cc)
from_kept (Some ShortLinger) is = absurd (cc)

pub retiring_kind : (known : Option KnownOutside) (v : View) (c : SeenConn) (kind : Kind) (lingered : Option Cause) (late : Bool)
    → HoldsFor due.Retiring known v c kind lingered late → kind ≡ KeepAlive
retiring_kind known v c kind lingered late h =
    let s = state_of v in
    let parts =
    parts_three (is_from KeepAlive h.row) (is_stopping (child_of s h.row).phase) (not (is_signalled s c.name.slot)) h.is_due in
    let from : h.row.from ≡ Some KeepAlive = from_kept h.row.from parts.0 in
    cc (from, h.kind_is)

-- so it doesn't linger yet
none_some : (o : Option Cause) → is_some o ≡ false → o ≡ None
none_some None none = refl
none_some (Some why) none = absurd (cc)

pub retiring_none : (known : Option KnownOutside) (v : View) (c : SeenConn) (kind : Kind) (lingered : Option Cause) (late : Bool)
    → HoldsFor due.Retiring known v c kind lingered late → lingered ≡ None
retiring_none known v c kind lingered late h =
    none_some lingered (sym h.lingers ∙ ap is_linger_kind (retiring_kind known v c kind lingered late h))

pub retiring_shows : (known : Option KnownOutside) (v : View) (c : SeenConn) (kind : Kind) (lingered : Option Cause) (late : Bool)
    → HoldsFor due.Retiring known v c kind lingered late → MayLinger cause.Retiring c
retiring_shows known v c kind lingered late h =
    let settled : IsSettled KeepAlive lingered c =
    subst (λ (k : Kind). IsSettled k lingered c) (retiring_kind known v c kind lingered late h) h.settled in
    record { usable = ap is_usable settled.waits.turn; shows = waiting_sent c settled.waits settled.is_conn }

retiring_fits : (s : State) (row : Row) (signalled : Bool) → row.cause ≡ None → is_held row.place ≡ true → is_from KeepAlive row ≡ true
    → is_stopping (child_of s row).phase ≡ true → signalled ≡ false
    → (not (is_lingering row) && linger_cause_fits s cause.Retiring signalled row) ≡ true
retiring_fits s row signalled none held from stops quiet = rw (none, held, from, stops, quiet) refl

pub retiring_lingers : (known : Option KnownOutside) (v : View) (c : SeenConn) (kind : Kind) (lingered : Option Cause) (late : Bool)
    → HoldsFor due.Retiring known v c kind lingered late → is_allowed (state_of v) (event.Linger c.name cause.Retiring) ≡ true
retiring_lingers known v c kind lingered late h =
    let s = state_of v in
    let signalled = is_signalled s c.name.slot in
    let parts = parts_three (is_from KeepAlive h.row) (is_stopping (child_of s h.row).phase) (not signalled) h.is_due in
    test-at s.rows c.name h.row (λ (r : Row). not (is_lingering r) && linger_cause_fits s cause.Retiring signalled r) h.found
    ∙ retiring_fits s h.row signalled (h.cause_is ∙ retiring_none known v c kind lingered late h) h.held parts.0 parts.1 (not_set signalled parts.2)

-- ## One that lingers

half_closed : (last : LastLinger) → lingers last ≡ true → is_half_closed last ≡ true
half_closed linger.Open at = absurd (cc)
half_closed linger.ShutFailed at = absurd (cc)
half_closed linger.Shut at = refl
half_closed linger.Drained at = absurd (cc)
half_closed linger.Sated at = absurd (cc)
half_closed linger.NotReady at = refl
half_closed linger.LinkFailed at = absurd (cc)

-- how far it is on its way out
pub held_way : (why : Due) (known : Option KnownOutside) (v : View) (c : SeenConn) (kind : Kind) (lingered : Option Cause) (late : Bool) (ending : Cause)
    → HoldsFor why known v c kind lingered late → lingered ≡ Some ending → LingersFor ending c
held_way why known v c kind lingered late ending h some = subst (λ (o : Option Cause). IsOnItsWay o c) some h.settled.way

-- the listener holds it
pub held_lingering : (why : Due) (known : Option KnownOutside) (v : View) (c : SeenConn) (kind : Kind) (lingered : Option Cause) (late : Bool) (ending : Cause)
    → HoldsFor why known v c kind lingered late → lingered ≡ Some ending → IsLingeringFor ending (state_of v) c
held_lingering why known v c kind lingered late ending h some =
    let way = held_way why known v c kind lingered late ending h some in
    record {
      row = h.row;
      found = h.found;
      held = h.held;
      cause = h.cause_is ∙ some;
      fits = h.fits;
      shut = half_closed c.linger way.half_closed;
      shows = way.shows;
    }

-- it waited for that
pub held_lingers : (why : Due) (known : Option KnownOutside) (v : View) (c : SeenConn) (kind : Kind) (lingered : Option Cause) (late : Bool) (ending : Cause)
    → HoldsFor why known v c kind lingered late → lingered ≡ Some ending → is_linger_kind kind ≡ true
held_lingers why known v c kind lingered late ending h some = h.lingers ∙ ap (λ (o : Option Cause). is_some o) some

-- the notes of the row are those that it ended with
notes_end : (why : Cause) (notes noted : List Note) → notes ≡ noted → NotesEnd why notes noted
notes_end cause.ClientDone notes noted same = same
notes_end cause.LastSent notes noted same = same
notes_end cause.KeepAliveLate notes noted same = same
notes_end cause.ReadLate notes noted same = same
notes_end cause.WriteLate notes noted same = same
notes_end cause.Retiring notes noted same = same
notes_end cause.LinkFailed notes noted same = same
notes_end cause.Stopped notes noted same = same
notes_end cause.NoMemory notes noted same = inl same

-- what it shows for its cause, where its link isn't left directly
shows_cause : (s : State) (r : Row) (why : Cause) (how : Tail) (c : SeenConn) → linger_tail_fits s how r ≡ true → MayLinger why c → ShowsCause why how c
shows_cause s r why tail.Direct c fits may = absurd (cc)
shows_cause s r why tail.Drained c fits may = may
shows_cause s r why tail.Sated c fits may = may
shows_cause s r why tail.Late c fits may = may
shows_cause s r why tail.Failed c fits may = may
shows_cause s r why tail.Halted c fits may = may
shows_cause s r why tail.NoMemory c fits may = may

ends_by : (o : Option Cause) (why : Cause) (fits other : Bool) → o ≡ Some why → fits ≡ true
    → cond (is_some o) (option_map_or (λ (c : Cause). cause_number c == cause_number why) o false && fits) other ≡ true
ends_by o why fits other some it_fits = rw (some, eq-eqb (cause_number why) (cause_number why) refl, it_fits) refl

ends_lingering : (s : State) (why : Cause) (how : Tail) (r : Row) → r.cause ≡ Some why → linger_tail_fits s how r ≡ true → end_fits s why how r ≡ true
ends_lingering s why how r some fits = ends_by r.cause why (linger_tail_fits s how r) _ some fits

-- it may be closed for its cause, with its link left so
pub closes_lingering : (s : State) (why : Cause) (how : Tail) (c : SeenConn) → (lingers_for : IsLingeringFor why s c)
    → linger_tail_fits s how lingers_for.row ≡ true → IsLeft how c.linger → IsClosable s why how c
closes_lingering s why how c lingers_for fits is_left =
    let row = lingers_for.row in
    record {
      row = row;
      found = lingers_for.found;
      in_hand = rw lingers_for.held refl;
      end_fits = ends_lingering s why how row lingers_for.cause fits;
      child = lingers_for.fits.child;
      generation = lingers_for.fits.generation;
      notes = notes_end why c.notes row.notes lingers_for.fits.notes;
      rank = lingers_for.fits.rank;
      backed = lingers_for.fits.backed;
      shown = record { shows = shows_cause s row why how c fits lingers_for.shows; left = is_left };
    }

-- one whose time is over may be closed as late
pub late_closes : (why : Due) (known : Option KnownOutside) (v : View) (c : SeenConn) (kind : Kind) (lingered : Option Cause) (late : Bool) (ending : Cause)
    → (h : HoldsFor why known v c kind lingered late) → lingered ≡ Some ending → nat_le h.row.deadline (state_of v).moment ≡ true
    → IsClosable (state_of v) ending tail.Late c
unfolding held_lingering
late_closes why known v c kind lingered late ending h some over =
    let held = held_lingering why known v c kind lingered late ending h some in
    closes_lingering (state_of v) ending tail.Late c held over held.shut

-- so may one, once the server has stopped
pub halted_closes : (known : Option KnownOutside) (v : View) (c : SeenConn) (kind : Kind) (lingered : Option Cause) (late : Bool) (ending : Cause)
    → HoldsFor due.Halted known v c kind lingered late → lingered ≡ Some ending → IsClosable (state_of v) ending tail.Halted c
halted_closes known v c kind lingered late ending h some =
    let held = held_lingering due.Halted known v c kind lingered late ending h some in
    closes_lingering (state_of v) ending tail.Halted c held h.is_due held.shut

-- and one that doesn't linger, as stopped
pub halted_stops : (known : Option KnownOutside) (v : View) (c : SeenConn) (kind : Kind) (lingered : Option Cause) (late : Bool)
    → HoldsFor due.Halted known v c kind lingered late → lingered ≡ None → IsClosable (state_of v) cause.Stopped tail.Direct c
halted_stops known v c kind lingered late h none =
    let hand = held_hand due.Halted known v c kind lingered late h none in
    closable (state_of v) cause.Stopped c hand h.is_due tt hand.fits.notes

-- the cause of its row
pub cause_at : (s : State) (name : ConnName) (row : Row) → live_row s.rows name ≡ Some row → cause_of s name ≡ row.cause
cause_at s name row found = ap (λ (o : Option Row). option_and_then (λ (r : Row). r.cause) o) found

-- ## Off the lock

-- the pass holds the connection still, which has its name and its edition
holds_as : (known : Option KnownOutside) (v : View) (c c' : SeenConn) → c'.name ≡ c.name
    → (IsOfGeneration known (book_of v) c.generation c.reader.limits c.site → IsOfGeneration known (book_of v) c'.generation c'.reader.limits c'.site)
    → Holds known v c → Holds known v c'
holds_as known v c c' name edition holds = record {
  turn = holds.turn;
  number = holds.number;
  row = holds.row ∙ ap Some (sym name);
  edition = edition holds.edition;
  sound = holds.sound;
}

-- behind a half-close
pub holds_shut : (known : Option KnownOutside) (v : View) (c c' : SeenConn) (answer : Bool) → ShutsOn c c' answer → Holds known v c → Holds known v c'
holds_shut known v c c' answer shuts = holds_as known v c c' shuts.name (edition-shut known (book_of v) c c' answer shuts)

-- and behind a turn of lingering
pub holds_turned : (known : Option KnownOutside) (v : View) (c c' : SeenConn) (answer : LingerTurn) → LingersOn c c' answer → Holds known v c → Holds known v c'
holds_turned known v c c' answer turned =
    holds_as known v c c' turned.name (λ is. rw (turned.generation, turned.reader, turned.site) is)

-- ## Behind a refused wait

-- one that lingers does so where its row stands as it stood
pub lingering_stays : (s t : State) (why : Cause) (c : SeenConn) → live_row t.rows c.name ≡ live_row s.rows c.name → IsLingeringFor why s c
    → IsLingeringFor why t c
lingering_stays s t why c same held = record {
  row = held.row;
  found = same ∙ held.found;
  held = held.held;
  cause = held.cause;
  fits = held.fits;
  shut = held.shut;
  shows = held.shows;
}

-- so does one that is in hand
pub hand_stays : (s t : State) (c : SeenConn) → live_row t.rows c.name ≡ live_row s.rows c.name → IsInHand s c → IsInHand t c
hand_stays s t c same hand = record {
  row = hand.row;
  found = same ∙ hand.found;
  in_hand = hand.in_hand;
  serves = hand.serves;
  fits = hand.fits;
  open_side = hand.open_side;
}

-- ## One that lingers, and couldn't wait on

-- it may be closed for its cause, as given up for the fault
pub gives_up_lingering : (s : State) (why : Cause) (f : BoardFault) (c : SeenConn) → IsLingeringFor why s c
    → (f ≡ fault.Halted → is_halted s.going ≡ true) → IsClosable s why (given_up_tail f) c
gives_up_lingering s why fault.Halted c held halted = closes_lingering s why tail.Halted c held (halted refl) held.shut
gives_up_lingering s why fault.NoMemory c held halted = closes_lingering s why tail.NoMemory c held refl held.shut
