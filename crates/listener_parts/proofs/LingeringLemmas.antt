-- A connection that lingers, behind a turn of lingering: it is closed as that shows, or waits on.
use Rattle.std.proofs.Common.{◌≡◌, ℕ, Bool, true, false, length, nat_le, nat_lt, Option, None, Some, IfSome, option_map, refl, sym, ap, subst, ◌∙◌, arith}
use Rattle.std.proofs.lemmas.Bool.Decides.{nat_tests}
use Rattle.mpm_base.specs.Count.{RisesExactlyWhere}
use Rattle.mpm_base.specs.Link.{LinkTold, with_received}
use Rattle.mpm_base.specs.declared.conn.Cause.{Cause}
use Rattle.mpm_base.specs.declared.conn.ConnName.{ConnName}
use Rattle.mpm_base.specs.declared.conn.Kind.{Kind}
use Rattle.mpm_base.specs.declared.conn.Kind.TheVariants.{Reading, KeepAlive, Writing, Linger, ShortLinger}
use Rattle.mpm_base.specs.declared.conn.Tail.{Tail}
use Rattle.mpm_base.specs.declared.conn.Tail.TheVariants as tail
use Rattle.conn_machine.specs.declared.event.Event.TheVariants as event
use Rattle.conn_machine.specs.declared.row.Row.{Row}
use Rattle.conn_machine.specs.declared.state.State.{State}
use Rattle.conn_machine.specs.Rows.{is_held, is_linger_kind, live_row}
use Rattle.conn_machine.specs.States.{is_halted}
use Rattle.conn_machine.specs.Table.{is_allowed, linger_tail_fits, may_wait}
use Rattle.conn_state.specs.declared.turn.LastLinger.{LastLinger}
use Rattle.conn_state.specs.declared.turn.LastLinger.TheVariants as linger
use Rattle.conn_state.specs.declared.turn.LingerTurn.{LingerTurn}
use Rattle.conn_state.specs.declared.turn.LingerTurn.TheVariants as left
use Rattle.conn_state.specs.Answered.{IsLeft, MayLinger}
use Rattle.conn_state.specs.Conn.{IsConn, SeenConn, is_half_closed, is_usable, lingers}
use Rattle.conn_state.specs.Known.{KnownOutside}
use Rattle.conn_state.specs.Turns.{LingersOn, after_linger, is_linger_late}
use Rattle.table_rule.specs.declared.view.View.{View}
use Rattle.board.specs.Backed.{BacksWait, waits_to_read}
use Rattle.board.specs.BoardLaws.{WaitsAreBackedByCalls}
use Rattle.board.specs.Fits.{FoundNoMore, IsOnItsWay, WaitsAs}
use Rattle.board_book.specs.Finds.{cause_of}
use Rattle.worker_group.specs.InHand.{IsClosable}
use Rattle.worker_group.proofs.BackedLemmas.{never-falls, stays-there}
use Rattle.worker_group.proofs.ServeLemmas.{test-at}
use Rattle.board_turns.specs.Books.{state_of}
use Rattle.listener_turns.specs.declared.held.Due.{Due}
use Rattle.listener_turns.specs.Holds.{HoldsFor, MayWait}
use Rattle.listener_parts.specs.Letting.{IsLingeringFor, tail_of}
use Rattle.listener_parts.proofs.HeldLemmas.{cause_at, closes_lingering, held_lingers}

-- ## A turn of lingering

half_closed_after : (answer : LingerTurn) → is_half_closed (after_linger answer) ≡ true
half_closed_after left.Drained = refl
half_closed_after left.Sated = refl
half_closed_after left.NotReady = refl
half_closed_after left.LinkFailed = refl

-- its link is the one that it was
rank_turned : (told told' : Option LinkTold) (got rank : ℕ) → told' ≡ option_map (with_received got) told → IfSome told (λ t. t.rank ≡ rank)
    → IfSome told' (λ t. t.rank ≡ rank)
rank_turned None told' got rank is same = rw is tt
rank_turned (Some t) told' got rank is same = rw is same

-- it lingers for its cause still
pub lingers_turned : WaitsAreBackedByCalls → (s : State) (why : Cause) (c c' : SeenConn) (answer : LingerTurn) → IsLingeringFor why s c → LingersOn c c' answer
    → MayLinger why c' → IsLingeringFor why s c'
lingers_turned law s why c c' answer held turned may = record {
  row = held.row;
  found = subst (λ (n : ConnName). live_row s.rows n ≡ Some held.row) (sym turned.name) held.found;
  held = held.held;
  cause = held.cause;
  fits =
      record {
        child = turned.child ∙ held.fits.child;
        generation = turned.generation ∙ held.fits.generation;
        notes = turned.notes ∙ held.fits.notes;
        rank = rank_turned c.told c'.told (length turned.got) held.row.arrival turned.told held.fits.rank;
        backed =
            law.stay held.row.waits c.counts c'.counts (never-falls (is_linger_late answer) c.counts.late_reads c'.counts.late_reads turned.late_reads)
            (stays-there c.counts.late_writes c'.counts.late_writes turned.late_writes) held.fits.backed;
      };
  shut = ap is_half_closed turned.linger ∙ half_closed_after answer;
  shows = may;
}

-- one for which nothing came yet backs a further wait
pub backs_turned : WaitsAreBackedByCalls → (s : State) (why : Cause) (c c' : SeenConn) (answer : LingerTurn) (kind : Kind) → IsLingeringFor why s c
    → LingersOn c c' answer → answer ≡ left.NotReady → is_linger_kind kind ≡ true → BacksWait kind s c'
backs_turned law s why c c' answer kind held turned late lingers = record {
  row = held.row;
  found = subst (λ (n : ConnName). live_row s.rows n ≡ Some held.row) (sym turned.name) held.found;
  backed =
      law.read held.row.waits kind c.counts c'.counts (linger_reads kind lingers)
      (subst (λ (a : LingerTurn). RisesExactlyWhere (is_linger_late a) c.counts.late_reads c'.counts.late_reads) late turned.late_reads)
      (stays-there c.counts.late_writes c'.counts.late_writes turned.late_writes) held.fits.backed;
} where
  linger_reads : (k : Kind) → is_linger_kind k ≡ true → waits_to_read k ≡ true
  linger_reads Reading is = absurd (cc)
  linger_reads KeepAlive is = absurd (cc)
  linger_reads Writing is = absurd (cc)
  linger_reads Linger is = refl
  linger_reads ShortLinger is = refl

-- a turn behind which a connection isn't closed found nothing yet
pub not_ready : (answer : LingerTurn) → tail_of answer ≡ None → answer ≡ left.NotReady
not_ready left.Drained none = absurd (cc)
not_ready left.Sated none = absurd (cc)
not_ready left.NotReady none = refl
not_ready left.LinkFailed none = absurd (cc)

pub after_not_ready : (answer : LingerTurn) → answer ≡ left.NotReady → after_linger answer ≡ linger.NotReady
after_not_ready answer is = ap after_linger is

-- its link is left as the turn shows
left_by : (answer : LingerTurn) (how : Tail) (last : LastLinger) → tail_of answer ≡ Some how → last ≡ after_linger answer → IsLeft how last
left_by left.Drained how last shown is =
    let same : tail.Drained ≡ how = cc in
    subst (λ (t : Tail). IsLeft t last) same is
left_by left.Sated how last shown is =
    let same : tail.Sated ≡ how = cc in
    subst (λ (t : Tail). IsLeft t last) same is
left_by left.NotReady how last shown is = absurd (cc)
left_by left.LinkFailed how last shown is =
    let same : tail.Failed ≡ how = cc in
    subst (λ (t : Tail). IsLeft t last) same is

tail_fits : (s : State) (r : Row) (answer : LingerTurn) (how : Tail) → tail_of answer ≡ Some how → linger_tail_fits s how r ≡ true
tail_fits s r left.Drained how shown =
    let same : tail.Drained ≡ how = cc in
    subst (λ (t : Tail). linger_tail_fits s t r ≡ true) same refl
tail_fits s r left.Sated how shown =
    let same : tail.Sated ≡ how = cc in
    subst (λ (t : Tail). linger_tail_fits s t r ≡ true) same refl
tail_fits s r left.NotReady how shown = absurd (cc)
tail_fits s r left.LinkFailed how shown =
    let same : tail.Failed ≡ how = cc in
    subst (λ (t : Tail). linger_tail_fits s t r ≡ true) same refl

-- it may be closed as the turn shows
pub closes_turned : (s : State) (why : Cause) (c c' : SeenConn) (answer : LingerTurn) (how : Tail) → IsLingeringFor why s c' → LingersOn c c' answer
    → tail_of answer ≡ Some how → IsClosable s why how c'
closes_turned s why c c' answer how held turned shown =
    closes_lingering s why how c' held (tail_fits s held.row answer how shown) (left_by answer how c'.linger shown turned.linger)

-- ## A further wait

wait_fits : (s : State) (kind : Kind) (row : Row) (why : Cause) → row.from ≡ Some kind → is_linger_kind kind ≡ true → row.cause ≡ Some why
    → is_held row.place ≡ true → nat_lt s.moment row.deadline ≡ true → may_wait s.moment kind row ≡ true
wait_fits s Reading row why from lingering some held later = absurd (cc)
wait_fits s KeepAlive row why from lingering some held later = absurd (cc)
wait_fits s Writing row why from lingering some held later = absurd (cc)
wait_fits s Linger row why from lingering some held later = rw (some, held, from, later) refl
wait_fits s ShortLinger row why from lingering some held later = rw (some, held, from, later) refl

later_than : (deadline moment : ℕ) → nat_le deadline moment ≡ false → nat_lt moment deadline ≡ true
later_than deadline moment early = grind (arith, nat_tests, early)

-- one whose time isn't over may wait on
pub may_wait_on : (why : Due) (known : Option KnownOutside) (v : View) (c : SeenConn) (kind : Kind) (lingered : Option Cause) (late : Bool) (ending : Cause)
    (named : ConnName) → HoldsFor why known v c kind lingered late → lingered ≡ Some ending → late ≡ false → named ≡ c.name
    → is_halted (state_of v).going ≡ false → is_allowed (state_of v) (event.Park named kind) ≡ true
may_wait_on why known v c kind lingered late ending named h some early same going =
    let s = state_of v in
    let later = later_than h.row.deadline s.moment (sym h.late_is ∙ early) in
    let found : live_row s.rows named ≡ Some h.row = subst (λ (n : ConnName). live_row s.rows n ≡ Some h.row) (sym same) h.found in
    let passes =
    test-at s.rows named h.row (may_wait s.moment kind) found
    ∙ wait_fits s kind h.row ending h.kind_is (held_lingers why known v c kind lingered late ending h some) (h.cause_is ∙ some) h.held later in
    rw (going, passes) refl

-- the connection may wait so, for its kind
waits_for_it : (kind : Kind) (c : SeenConn) → is_linger_kind kind ≡ true → is_usable c.turn ≡ true → WaitsAs kind c
waits_for_it Reading c lingering usable = absurd (cc)
waits_for_it KeepAlive c lingering usable = absurd (cc)
waits_for_it Writing c lingering usable = absurd (cc)
waits_for_it Linger c lingering usable = usable
waits_for_it ShortLinger c lingering usable = usable

found_no_more : (kind : Kind) (c : SeenConn) → is_linger_kind kind ≡ true → c.linger ≡ linger.NotReady → FoundNoMore kind c
found_no_more Reading c lingering late = absurd (cc)
found_no_more KeepAlive c lingering late = absurd (cc)
found_no_more Writing c lingering late = absurd (cc)
found_no_more Linger c lingering late = late
found_no_more ShortLinger c lingering late = late

-- it may wait, by what is known of it behind a turn of lingering
pub may_linger_on : (s : State) (kind : Kind) (why : Cause) (c : SeenConn) → IsLingeringFor why s c → is_linger_kind kind ≡ true → c.linger ≡ linger.NotReady
    → IsConn c → BacksWait kind s c → (is_halted s.going ≡ false → is_allowed s (event.Park c.name kind) ≡ true) → MayWait kind s c
may_linger_on s kind why c held lingering late is backed allowed =
    let some : cause_of s c.name ≡ Some why = cause_at s c.name held.row held.found ∙ held.cause in
    record {
      allowed = allowed;
      fits = record { row = held.row; found = held.found; fits = held.fits };
      settled =
          record {
            waits = waits_for_it kind c lingering held.shows.usable;
            way =
                subst (λ (o : Option Cause). IsOnItsWay o c) (sym some)
                (record { half_closed = ap lingers late; shows = held.shows });
            is_conn = is;
          };
      turned = found_no_more kind c lingering late;
      backed = backed;
    }
