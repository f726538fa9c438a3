-- A connection that waited and is held: what its row says, and how it may be left.
use Rattle.std.proofs.Common.{◌≡◌, ◌==◌, ℕ, Bool, true, false, not, ◌&&◌, List, length, nat_le, nat_lt, cond, Option, None, Some, IfSome, option_map, slice_get, is_some, refl, sym, ap, subst, ◌∙◌, inl, inr, eq-eqb, arith}
use Rattle.std.proofs.lemmas.Bool.{and_parts}
use Rattle.std.specs.Option.{option_and_then, option_map_or}
use Rattle.mpm_base.specs.Cause.{cause_number}
use Rattle.mpm_base.specs.Count.{NeverFalls, RisesExactlyWhere}
use Rattle.mpm_base.specs.Link.{LinkTold, with_received}
use Rattle.mpm_base.specs.declared.conn.ConnName.{ConnName}
use Rattle.mpm_base.specs.declared.conn.Cause.{Cause}
use Rattle.mpm_base.specs.declared.conn.Cause.TheVariants as cause
use Rattle.mpm_base.specs.declared.conn.Kind.{Kind}
use Rattle.mpm_base.specs.declared.conn.Kind.TheVariants.{Reading, KeepAlive, Writing, Linger, ShortLinger}
use Rattle.mpm_base.specs.declared.conn.Tail.{Tail}
use Rattle.mpm_base.specs.declared.conn.Tail.TheVariants as tail
use Rattle.mpm_base.specs.declared.note.Note.{Note}
use Rattle.conn_machine.specs.declared.row.Place.{Place}
use Rattle.conn_machine.specs.declared.row.Place.TheVariants.{Vacant, Spent, Held, Parked, Queued, Working}
use Rattle.conn_machine.specs.declared.row.Row.{Row}
use Rattle.conn_machine.specs.declared.event.Event.TheVariants as event
use Rattle.conn_machine.specs.declared.state.State.{State}
use Rattle.conn_machine.specs.Rows.{is_linger_kind, is_lingering, live_row}
use Rattle.conn_machine.specs.States.{is_halted, is_signalled}
use Rattle.conn_machine.specs.Table.{end_fits, held_row, is_allowed, linger_cause_fits, linger_tail_fits, may_wait, next}
use Rattle.conn_machine.specs.Sound.{IsSound, KindFits, KnowsItsKind}
use Rattle.conn_state.specs.declared.turn.LastTurn.{LastTurn}
use Rattle.conn_state.specs.declared.turn.LastTurn.TheVariants as turn
use Rattle.conn_state.specs.declared.turn.LastLinger.{LastLinger}
use Rattle.conn_state.specs.declared.turn.LastLinger.TheVariants as linger
use Rattle.conn_state.specs.declared.turn.LingerTurn.{LingerTurn}
use Rattle.conn_state.specs.declared.turn.LingerTurn.TheVariants as left
use Rattle.conn_state.specs.Conn.{IsConn, IsWaiting, SeenConn, TurnFits, is_half_closed, is_usable, lingers}
use Rattle.conn_state.specs.Answered.{IsLeft, MayLinger, SentAll, ShowsCause, waits_on}
use Rattle.conn_state.specs.Turns.{LingersOn, after_linger, is_linger_late}
use Rattle.board.specs.Backed.{BacksWait, waits_to_read}
use Rattle.board.specs.BoardLaws.{WaitsAreBackedByCalls}
use Rattle.board.specs.Fits.{Fits, FoundNoMore, IsOnItsWay, IsSettled, IsSettledFrom, IsTakenUp, LingersFor, NotesEnd, WaitsAs, WaitsForNext}
use Rattle.board_book.specs.Finds.{cause_of, kind_of, waits_for}
use Rattle.worker_group.specs.InHand.{IsClosable, IsInHand}
use Rattle.rounds.specs.ClosingInside.{IsLingeringFor, cause_of_late, tail_of}
use Rattle.rounds.proofs.FoundLemmas.{ChangesInPlace, found-at, found-changed, found-fits, found-named, passes-found}

-- ## Its row

-- the connection is the one of the row, which is held now, and is as it waited
pub record IsHeldFrom (s : State) (was : Row) (c : SeenConn) : Type 0 where
  pub found : live_row s.rows c.name ≡ Some (held_row was)
  pub fits : Fits c (held_row was)
  pub settled : IsSettledFrom was.from was.cause c

-- so is one that was held
pub held-from : ChangesInPlace → (s s' : State) (name : ConnName) (was : Row) (c : SeenConn) → live_row s.rows name ≡ Some was → s' ≡ next s (event.Hold name)
    → c.name ≡ name → IsTakenUp s' c → IsHeldFrom s' was c
held-from law s s' name was c found is named handed =
    let life = (found-named s.rows name was found).1 in
    let held : live_row s'.rows name ≡ Some (held_row was) =
    rw is (found-changed law s.rows name was held_row (found-at s.rows name was found) (and_parts _ (was.life == name.life) life).1) in
    let same : handed.row ≡ held_row was = cc (subst (λ (n : ConnName). live_row s'.rows n ≡ Some handed.row) named handed.found, held) in
    record {
      found = subst (λ (r : Row). live_row s'.rows c.name ≡ Some r) same handed.found;
      fits = subst (Fits c) same handed.fits;
      settled = subst (λ (r : Row). IsSettledFrom r.from r.cause c) same handed.settled;
    }

-- a connection was held: the row that it had, and what is known of it then
pub record IsHolding (s s' : State) (name : ConnName) (was : Row) (c : SeenConn) : Type 0 where
  pub was_found : live_row s.rows name ≡ Some was
  pub state : s' ≡ next s (event.Hold name)
  pub held : IsHeldFrom s' was c
  pub way : IsOnItsWay was.cause c

-- why its service ended
pub cause-of : (s : State) (name : ConnName) (was : Row) → live_row s.rows name ≡ Some was → cause_of s name ≡ was.cause
cause-of s name was found = ap (λ (o : Option Row). option_and_then (λ (r : Row). r.cause) o) found

pub holding : ChangesInPlace → (s s' : State) (name : ConnName) (was : Row) (c : SeenConn) → live_row s.rows name ≡ Some was → s' ≡ next s (event.Hold name)
    → c.name ≡ name → IsTakenUp s' c → IsOnItsWay (cause_of s name) c → IsHolding s s' name was c
holding law s s' name was c found is named handed way = record {
  was_found = found;
  state = is;
  held = held-from law s s' name was c found is named handed;
  way = subst (λ (o : Option Cause). IsOnItsWay o c) (cause-of s name was found) way;
}

-- its row stood in its slot
pub was-at : (s s' : State) (name : ConnName) (was : Row) (c : SeenConn) → IsHolding s s' name was c → slice_get s.rows name.slot ≡ Some was
was-at s s' name was c holds = found-at s.rows name was holds.was_found

-- it waits in that place
parked-by : (p : Place) (kind : Kind) → kind_of p ≡ Some kind → p ≡ Parked kind
parked-by Vacant kind is = absurd (cc)
parked-by Spent kind is = absurd (cc)
parked-by Held kind is = absurd (cc)
parked-by (Parked other) kind is =
    let same : other ≡ kind = cc in
    ap Parked same
parked-by Queued kind is = absurd (cc)
parked-by (Working cell phase) kind is = absurd (cc)

pub waited-for : (s : State) (name : ConnName) (was : Row) (kind : Kind) → IsSound s → live_row s.rows name ≡ Some was → waits_for s name ≡ Some kind
    → KnowsItsKind kind was
waited-for s name was kind sound found is =
    let at : kind_of was.place ≡ Some kind = sym (ap (λ (o : Option Row). option_and_then (λ (r : Row). kind_of r.place) o) found) ∙ is in
    subst (λ (p : Place). KindFits p was) (parked-by was.place kind at) (found-fits s name was sound found)

-- ## A connection that doesn't linger

-- its link was never half-closed
pub held-open : (s s' : State) (name : ConnName) (was : Row) (c : SeenConn) → IsHolding s s' name was c → was.cause ≡ None → c.linger ≡ linger.Open
held-open s s' name was c holds none = subst (λ (o : Option Cause). IsOnItsWay o c) none holds.way

-- it is in hand
pub held-hand : (s s' : State) (name : ConnName) (was : Row) (c : SeenConn) → IsHolding s s' name was c → was.cause ≡ None → IsInHand s' c
held-hand s s' name was c holds none = record {
  row = held_row was;
  found = holds.held.found;
  in_hand = refl;
  serves = ap (λ (o : Option Cause). is_some o) none;
  fits = holds.held.fits;
  open_side = ap is_half_closed (held-open s s' name was c holds none);
}

-- what it waited for, as its row says
settled-as : (kind : Kind) (o : Option Kind) (why : Option Cause) (c : SeenConn) → o ≡ Some kind → IsSettledFrom o why c → IsSettled kind why c
settled-as kind o why c is settled = subst (λ (x : Option Kind). IsSettledFrom x why c) is settled

pub serves-by : (kind : Kind) (was : Row) → KnowsItsKind kind was → was.cause ≡ None → is_linger_kind kind ≡ false
serves-by kind was waits none = waits.lingers ∙ ap (λ (o : Option Cause). is_some o) none

pub lingers-by : (kind : Kind) (was : Row) (why : Cause) → KnowsItsKind kind was → was.cause ≡ Some why → is_linger_kind kind ≡ true
lingers-by kind was why waits some = waits.lingers ∙ ap (λ (o : Option Cause). is_some o) some

-- ## What it shows

-- the law of connections: one of which nothing was read may linger as one that is late with its request
abbrev pub MayBeLate : Type 0
MayBeLate = (c : SeenConn) → c.turn ≡ turn.New → MayLinger cause.ReadLate c

-- one that waits for the next request has sent all, and nothing of it came
waiting-sent : (c : SeenConn) → WaitsForNext c → IsConn c → SentAll c
waiting-sent c waits is =
    let fits : IsWaiting c is.rest = subst (λ (t : LastTurn). TurnFits t c is.rest) waits.turn is.turn_fits in
    record { none_pending = fits.none_pending; none_kept = waits.none_kept }

-- a connection that waited for this shows the cause for which it lingers where it is late
shows-late : MayBeLate → (kind : Kind) (why : Option Cause) (c : SeenConn) → is_linger_kind kind ≡ false → IsSettled kind why c → MayLinger (cause_of_late kind) c
shows-late law Reading why c serves settled =
    elim settled.waits [
      | inl new ↦ law c new
      | inr more ↦ record { usable = ap is_usable more; shows = ap waits_on more }
    ]
shows-late law KeepAlive why c serves settled =
    record { usable = ap is_usable settled.waits.turn; shows = waiting-sent c settled.waits settled.is_conn }
shows-late law Writing why c serves settled = record { usable = ap is_usable settled.waits; shows = tt }
shows-late law Linger why c serves settled = absurd (cc)
shows-late law ShortLinger why c serves settled = absurd (cc)

pub late-shows : MayBeLate → (s : State) (was : Row) (c : SeenConn) (kind : Kind) → IsHeldFrom s was c → KnowsItsKind kind was → is_linger_kind kind ≡ false
    → MayLinger (cause_of_late kind) c
late-shows law s was c kind held waits serves = shows-late law kind was.cause c serves (settled-as kind was.from was.cause c waits.own held.settled)

-- and so does one that was kept alive
pub retiring-shows : (s : State) (was : Row) (c : SeenConn) → IsHeldFrom s was c → was.from ≡ Some KeepAlive → MayLinger cause.Retiring c
retiring-shows s was c held from =
    let settled = settled-as KeepAlive was.from was.cause c from held.settled in
    record { usable = ap is_usable settled.waits.turn; shows = waiting-sent c settled.waits settled.is_conn }

-- ## That it may linger

late-fits : (s : State) (kind : Kind) (was : Row) (signalled : Bool) → was.from ≡ Some kind → is_linger_kind kind ≡ false → was.cause ≡ None
    → nat_le was.deadline s.moment ≡ true → (not (is_lingering (held_row was)) && linger_cause_fits s (cause_of_late kind) signalled (held_row was)) ≡ true
late-fits s Reading was signalled from serves none late = rw (none, from, late) refl
late-fits s KeepAlive was signalled from serves none late = rw (none, from, late) refl
late-fits s Writing was signalled from serves none late = rw (none, from, late) refl
late-fits s Linger was signalled from serves none late = absurd (cc)
late-fits s ShortLinger was signalled from serves none late = absurd (cc)

-- a late connection may linger for what it waited for
pub late-lingers : (s s' : State) (name : ConnName) (was : Row) (c : SeenConn) (kind : Kind) → s' ≡ next s (event.Hold name) → IsHeldFrom s' was c
    → KnowsItsKind kind was → was.cause ≡ None → nat_le was.deadline s.moment ≡ true → is_allowed s' (event.Linger c.name (cause_of_late kind)) ≡ true
late-lingers s s' name was c kind is held waits none late =
    passes-found (λ (r : Row). not (is_lingering r) && linger_cause_fits s' (cause_of_late kind) (is_signalled s' c.name.slot) r) s'.rows c.name (held_row was)
    held.found
    (late-fits s' kind was (is_signalled s' c.name.slot) waits.own (serves-by kind was waits none) none
    (ap (λ (t : State). nat_le was.deadline t.moment) is ∙ late))

-- ## A connection that lingers

pub half-closed : (last : LastLinger) → lingers last ≡ true → is_half_closed last ≡ true
half-closed linger.Open at = absurd (cc)
half-closed linger.ShutFailed at = absurd (cc)
half-closed linger.Shut at = refl
half-closed linger.Drained at = absurd (cc)
half-closed linger.Sated at = absurd (cc)
half-closed linger.NotReady at = refl
half-closed linger.LinkFailed at = absurd (cc)

-- the listener holds it
abbrev pub held-lingering : (s s' : State) (name : ConnName) (was : Row) (c : SeenConn) (why : Cause) → IsHolding s s' name was c → was.cause ≡ Some why
    → IsLingeringFor why s' c
held-lingering s s' name was c why holds some =
    let way : LingersFor why c = subst (λ (o : Option Cause). IsOnItsWay o c) some holds.way in
    record {
      row = held_row was;
      found = holds.held.found;
      held = refl;
      cause = some;
      fits = holds.held.fits;
      shut = half-closed c.linger way.half_closed;
      shows = way.shows;
    }

-- the notes of the row are those that it ended with
notes-end : (why : Cause) (notes noted : List Note) → notes ≡ noted → NotesEnd why notes noted
notes-end cause.ClientDone notes noted same = same
notes-end cause.LastSent notes noted same = same
notes-end cause.KeepAliveLate notes noted same = same
notes-end cause.ReadLate notes noted same = same
notes-end cause.WriteLate notes noted same = same
notes-end cause.Retiring notes noted same = same
notes-end cause.LinkFailed notes noted same = same
notes-end cause.Stopped notes noted same = same
notes-end cause.NoMemory notes noted same = inl same

-- what it shows for its cause, where its link isn't left directly
shows-cause : (s : State) (r : Row) (why : Cause) (how : Tail) (c : SeenConn) → linger_tail_fits s how r ≡ true → MayLinger why c → ShowsCause why how c
shows-cause s r why tail.Direct c fits may = absurd (cc)
shows-cause s r why tail.Drained c fits may = may
shows-cause s r why tail.Sated c fits may = may
shows-cause s r why tail.Late c fits may = may
shows-cause s r why tail.Failed c fits may = may
shows-cause s r why tail.Halted c fits may = may
shows-cause s r why tail.NoMemory c fits may = may

ends-by : (o : Option Cause) (why : Cause) (fits other : Bool) → o ≡ Some why → fits ≡ true
    → cond (is_some o) (option_map_or (λ (c : Cause). cause_number c == cause_number why) o false && fits) other ≡ true
ends-by o why fits other some it_fits = rw (some, eq-eqb (cause_number why) (cause_number why) refl, it_fits) refl

ends-lingering : (s : State) (why : Cause) (how : Tail) (r : Row) → r.cause ≡ Some why → linger_tail_fits s how r ≡ true → end_fits s why how r ≡ true
ends-lingering s why how r some fits = ends-by r.cause why (linger_tail_fits s how r) _ some fits

-- it may be closed for its cause, with its link left so
pub closes-lingering : (s : State) (why : Cause) (how : Tail) (c : SeenConn) → (lingers_for : IsLingeringFor why s c)
    → linger_tail_fits s how lingers_for.row ≡ true → IsLeft how c.linger → IsClosable s why how c
closes-lingering s why how c lingers_for fits is_left =
    let row = lingers_for.row in
    record {
      row = row;
      found = lingers_for.found;
      in_hand = rw lingers_for.held refl;
      end_fits = ends-lingering s why how row lingers_for.cause fits;
      child = lingers_for.fits.child;
      generation = lingers_for.fits.generation;
      notes = notes-end why c.notes row.notes lingers_for.fits.notes;
      rank = lingers_for.fits.rank;
      backed = lingers_for.fits.backed;
      shown = record { shows = shows-cause s row why how c fits lingers_for.shows; left = is_left };
    }

-- ## A turn of lingering

half-closed_after : (answer : LingerTurn) → is_half_closed (after_linger answer) ≡ true
half-closed_after left.Drained = refl
half-closed_after left.Sated = refl
half-closed_after left.NotReady = refl
half-closed_after left.LinkFailed = refl

-- its link is the one that it was
rank-turned : (told told' : Option LinkTold) (got rank : ℕ) → told' ≡ option_map (with_received got) told → IfSome told (λ t. t.rank ≡ rank)
    → IfSome told' (λ t. t.rank ≡ rank)
rank-turned None told' got rank is same = rw is tt
rank-turned (Some t) told' got rank is same = rw is same

-- a count that rises where a test holds never falls
never-falls : (test : Bool) (old new : ℕ) → RisesExactlyWhere test old new → NeverFalls old new
never-falls true old new rises = rises.0
never-falls false old new same = omega (arith, same)

-- nor does one that stays
stays-there : (old new : ℕ) → new ≡ old → NeverFalls old new
stays-there old new same = omega (arith, same)

-- it lingers for its cause still
pub lingers-turned : WaitsAreBackedByCalls → (s : State) (why : Cause) (c c' : SeenConn) (answer : LingerTurn) → IsLingeringFor why s c → LingersOn c c' answer → MayLinger why c'
    → IsLingeringFor why s c'
lingers-turned law s why c c' answer held turned may = record {
  row = held.row;
  found = subst (λ (n : ConnName). live_row s.rows n ≡ Some held.row) (sym turned.name) held.found;
  held = held.held;
  cause = held.cause;
  fits =
      record {
        child = turned.child ∙ held.fits.child;
        generation = turned.generation ∙ held.fits.generation;
        notes = turned.notes ∙ held.fits.notes;
        rank = rank-turned c.told c'.told (length turned.got) held.row.arrival turned.told held.fits.rank;
        backed =
            law.stay held.row.waits c.counts c'.counts (never-falls (is_linger_late answer) c.counts.late_reads c'.counts.late_reads turned.late_reads)
            (stays-there c.counts.late_writes c'.counts.late_writes turned.late_writes) held.fits.backed;
      };
  shut = ap is_half_closed turned.linger ∙ half-closed_after answer;
  shows = may;
}

-- one for which nothing came yet backs a further wait
pub backs-turned : WaitsAreBackedByCalls → (s : State) (why : Cause) (c c' : SeenConn) (answer : LingerTurn) (kind : Kind) → IsLingeringFor why s c
    → LingersOn c c' answer → answer ≡ left.NotReady → is_linger_kind kind ≡ true → BacksWait kind s c'
backs-turned law s why c c' answer kind held turned late lingers = record {
  row = held.row;
  found = subst (λ (n : ConnName). live_row s.rows n ≡ Some held.row) (sym turned.name) held.found;
  backed =
      law.read held.row.waits kind c.counts c'.counts (linger-reads kind lingers)
      (subst (λ (a : LingerTurn). RisesExactlyWhere (is_linger_late a) c.counts.late_reads c'.counts.late_reads) late turned.late_reads)
      (stays-there c.counts.late_writes c'.counts.late_writes turned.late_writes) held.fits.backed;
} where
  linger-reads : (k : Kind) → is_linger_kind k ≡ true → waits_to_read k ≡ true
  linger-reads Reading is = absurd (cc)
  linger-reads KeepAlive is = absurd (cc)
  linger-reads Writing is = absurd (cc)
  linger-reads Linger is = refl
  linger-reads ShortLinger is = refl

-- its link is left as the turn shows
left-by : (answer : LingerTurn) (how : Tail) (last : LastLinger) → tail_of answer ≡ Some how → last ≡ after_linger answer → IsLeft how last
left-by left.Drained how last shown is =
    let same : tail.Drained ≡ how = cc in
    subst (λ (t : Tail). IsLeft t last) same is
left-by left.Sated how last shown is =
    let same : tail.Sated ≡ how = cc in
    subst (λ (t : Tail). IsLeft t last) same is
left-by left.NotReady how last shown is = absurd (cc)
left-by left.LinkFailed how last shown is =
    let same : tail.Failed ≡ how = cc in
    subst (λ (t : Tail). IsLeft t last) same is

tail-fits : (s : State) (r : Row) (answer : LingerTurn) (how : Tail) → tail_of answer ≡ Some how → linger_tail_fits s how r ≡ true
tail-fits s r left.Drained how shown =
    let same : tail.Drained ≡ how = cc in
    subst (λ (t : Tail). linger_tail_fits s t r ≡ true) same refl
tail-fits s r left.Sated how shown =
    let same : tail.Sated ≡ how = cc in
    subst (λ (t : Tail). linger_tail_fits s t r ≡ true) same refl
tail-fits s r left.NotReady how shown = absurd (cc)
tail-fits s r left.LinkFailed how shown =
    let same : tail.Failed ≡ how = cc in
    subst (λ (t : Tail). linger_tail_fits s t r ≡ true) same refl

-- it may be closed as the turn shows
pub closes-turned : (s : State) (why : Cause) (c c' : SeenConn) (answer : LingerTurn) (how : Tail) → IsLingeringFor why s c'
    → LingersOn c c' answer → tail_of answer ≡ Some how → IsClosable s why how c'
closes-turned s why c c' answer how held turned shown =
    closes-lingering s why how c' held (tail-fits s held.row answer how shown) (left-by answer how c'.linger shown turned.linger)

-- ## A further wait

wait-fits : (s : State) (kind : Kind) (was : Row) (why : Cause) → was.from ≡ Some kind → is_linger_kind kind ≡ true → was.cause ≡ Some why
    → nat_lt s.moment was.deadline ≡ true → may_wait s.moment kind (held_row was) ≡ true
wait-fits s Reading was why from lingering some later = absurd (cc)
wait-fits s KeepAlive was why from lingering some later = absurd (cc)
wait-fits s Writing was why from lingering some later = absurd (cc)
wait-fits s Linger was why from lingering some later = rw (some, from, later) refl
wait-fits s ShortLinger was why from lingering some later = rw (some, from, later) refl

-- one that isn't late may wait on
pub may-wait_on : (s s' : State) (name named : ConnName) (was : Row) (kind : Kind) (why : Cause) → s' ≡ next s (event.Hold name)
    → live_row s'.rows named ≡ Some (held_row was) → KnowsItsKind kind was → was.cause ≡ Some why → nat_lt s.moment was.deadline ≡ true
    → is_halted s'.going ≡ false → is_allowed s' (event.Park named kind) ≡ true
may-wait_on s s' name named was kind why is found waits some later going =
    let passes =
    passes-found (may_wait s'.moment kind) s'.rows named (held_row was) found
    (wait-fits s' kind was why waits.own (lingers-by kind was why waits some) some (ap (λ (t : State). nat_lt t.moment was.deadline) is ∙ later)) in
    rw (going, passes) refl

-- the connection may wait so, for its kind
pub waits-on : (kind : Kind) (c : SeenConn) → is_linger_kind kind ≡ true → is_usable c.turn ≡ true → WaitsAs kind c
waits-on Reading c lingering usable = absurd (cc)
waits-on KeepAlive c lingering usable = absurd (cc)
waits-on Writing c lingering usable = absurd (cc)
waits-on Linger c lingering usable = usable
waits-on ShortLinger c lingering usable = usable

pub found-no_more : (kind : Kind) (c : SeenConn) → is_linger_kind kind ≡ true → c.linger ≡ linger.NotReady → FoundNoMore kind c
found-no_more Reading c lingering late = absurd (cc)
found-no_more KeepAlive c lingering late = absurd (cc)
found-no_more Writing c lingering late = absurd (cc)
found-no_more Linger c lingering late = late
found-no_more ShortLinger c lingering late = late

-- how it is settled, so that it may wait on
pub settled-on : (s : State) (kind : Kind) (why : Cause) (c : SeenConn) → IsLingeringFor why s c → is_linger_kind kind ≡ true → c.linger ≡ linger.NotReady
    → IsConn c → IsSettled kind (cause_of s c.name) c
settled-on s kind why c held lingering late is =
    let some : cause_of s c.name ≡ Some why = cause-of s c.name held.row held.found ∙ held.cause in
    record {
      waits = waits-on kind c lingering held.shows.usable;
      way =
          subst (λ (o : Option Cause). IsOnItsWay o c) (sym some)
          (record { half_closed = ap lingers late; shows = held.shows });
      is_conn = is;
    }
