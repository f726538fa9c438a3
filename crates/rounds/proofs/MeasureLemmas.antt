-- Fewer connections are left with each that is let go of.
use Rattle.std.proofs.Common.{◌≡◌, ◌==◌, ℕ, zero, suc, ◌+◌, ◌<◌, ◌≤◌, Bool, true, false, not, ◌&&◌, ◌||◌, List, [], ◌∷◌, count_by, nat_le, nat_lt, Option, None, Some, slice_get, slice_set, slice_index_or, inl, inr, refl, sym, ap, subst, ◌∙◌, arith}
use Rattle.std.proofs.lemmas.Bool.{and_parts}
use Rattle.std.proofs.lemmas.Bool.Decides.{nat_tests}
use Rattle.std.specs.Option.{option_map_or}
use Rattle.std.specs.List.{list_any}
use Rattle.mpm_base.specs.declared.conn.ConnName.{ConnName}
use Rattle.mpm_base.specs.declared.conn.Cause.{Cause}
use Rattle.mpm_base.specs.declared.conn.Cause.TheVariants as cause
use Rattle.mpm_base.specs.declared.conn.Kind.{Kind}
use Rattle.mpm_base.specs.declared.conn.Kind.TheVariants.{Reading, KeepAlive, Writing, Linger, ShortLinger}
use Rattle.mpm_base.specs.declared.conn.Tail.{Tail}
use Rattle.mpm_base.specs.declared.conn.Tail.TheVariants as tail
use Rattle.conn_machine.specs.declared.row.Row.{Row}
use Rattle.conn_machine.specs.declared.event.Event.{Event}
use Rattle.conn_machine.specs.declared.event.Event.TheVariants as event
use Rattle.conn_machine.specs.declared.state.State.{State}
use Rattle.conn_machine.specs.Rows.{is_linger_kind, is_lingering, is_parked, live_row, lives_and, row_passes}
use Rattle.conn_machine.specs.States.{is_overdue, is_signalled}
use Rattle.conn_machine.specs.Lists.{update}
use Rattle.conn_machine.specs.Table.{closed_row, greatest_life, held_row, lingering_row, next, parked_row}
use Rattle.worker_group.specs.declared.service.Exit.{Exit}
use Rattle.worker_group.specs.Service.{IsWayOut, left_events}
use Rattle.rounds.specs.ClosingInside.{late_weight, parked_count, serving_count, signal_count, state_by}
use Rattle.board_book.specs.Finds.{is_late}
use Rattle.rounds.specs.TableInside.{NoneOverdue}
use Rattle.rounds.proofs.FoundLemmas.{found-at, lives}
use Rattle.rounds.proofs.ListenLemmas.{count-cons, count-less}

-- ## A row that changes

-- the laws of the machine on a changed row: it stands where it stood, no more rows pass a test where it passes only if it did before,
-- one more at most, and none where none did and it doesn't
pub record RowsChange : Type 0 where
  pub there : (rows : List Row) (slot : ℕ) (r : Row) (change : Row → Row) → slice_get rows slot ≡ Some r → slice_get (update rows slot change) slot ≡ Some (change r)
  pub kept : (test : Row → Bool) (rows : List Row) (slot : ℕ) (r : Row) (change : Row → Row) → slice_get rows slot ≡ Some r → (test (change r) ≡ true → test r ≡ true) → count_by test (update rows slot change) ≤ count_by test rows
  pub more : (test : Row → Bool) (rows : List Row) (slot : ℕ) (change : Row → Row) → count_by test (update rows slot change) ≤ count_by test rows + 1
  pub none : (test : Row → Bool) (rows : List Row) (slot : ℕ) (r : Row) (change : Row → Row) → slice_get rows slot ≡ Some r → test (change r) ≡ false → list_any test rows ≡ false → list_any test (update rows slot change) ≡ false

-- ## A row that was closed

-- it doesn't wait
closed-off : (r : Row) (spent : Bool) → (r.life == greatest_life) ≡ spent → is_parked (closed_row r).place ≡ false
closed-off r true at = rw at refl
closed-off r false at = rw at refl

-- so it passes no test of rows that wait
closed-fails : (r : Row) (b : Bool) → (is_parked (closed_row r).place && b) ≡ true → ⊥
closed-fails r b passes =
    let off = closed-off r (r.life == greatest_life) refl in
    let waits = (and_parts (is_parked (closed_row r).place) b passes).0 in
    absurd (cc)

closed-none : (r : Row) (b : Bool) → (is_parked (closed_row r).place && b) ≡ false
closed-none r b = ap (λ (waits : Bool). waits && b) (closed-off r (r.life == greatest_life) refl)

-- ## Late connections

-- the row is late and doesn't linger
abbrev is_fresh_late : ℕ → Row → Bool
is_fresh_late moment r = is_overdue moment r && not (is_lingering r)

-- the weight is less where a late one was held and closed
pub weight-closed : RowsChange → (s : State) (name : ConnName) (why : Cause) (how : Tail) (was : Row) → slice_get s.rows name.slot ≡ Some was → is_overdue s.moment was ≡ true
    → late_weight (next (next s (event.Hold name)) (event.Close name why how)) < late_weight s
weight-closed law s name why how was at late =
    let p : Row → Bool = is_overdue s.moment in
    let q : Row → Bool = is_fresh_late s.moment in
    let held = update s.rows name.slot held_row in
    let there = law.there s.rows name.slot was held_row at in
    omega (
      arith,
      count-less p s.rows name.slot was held_row at late refl,
      law.kept q s.rows name.slot was held_row at (λ passes. absurd (cc)),
      law.kept p held name.slot (held_row was) closed_row there (λ passes. absurd (closed-fails (held_row was) _ passes)),
      law.kept q held name.slot (held_row was) closed_row there
          (λ passes. absurd (closed-fails (held_row was) _ (and_parts (is_overdue s.moment (closed_row (held_row was))) _ passes).0)),
    )

-- and where one that didn't linger was held and lingers
pub weight-lingers : RowsChange → (s : State) (name : ConnName) (why : Cause) (was : Row) → slice_get s.rows name.slot ≡ Some was → is_overdue s.moment was ≡ true
    → was.cause ≡ None → late_weight (next (next s (event.Hold name)) (event.Linger name why)) < late_weight s
weight-lingers law s name why was at late none =
    let p : Row → Bool = is_overdue s.moment in
    let q : Row → Bool = is_fresh_late s.moment in
    let change : Row → Row = lingering_row (next s (event.Hold name)) why in
    let held = update s.rows name.slot held_row in
    let there = law.there s.rows name.slot was held_row at in
    let fresh : is_fresh_late s.moment was ≡ true = rw (late, none) refl in
    omega (
      arith,
      count-less p s.rows name.slot was held_row at late refl,
      count-less q s.rows name.slot was held_row at fresh refl,
      law.more p held name.slot change,
      law.kept q held name.slot (held_row was) change there
          (λ passes. absurd (off (and_parts (is_overdue s.moment (change (held_row was))) false passes).1)),
    )
  where
    off : false ≡ true → ⊥
    off same = absurd (cc)

-- ## Connections that wait for service

-- the row waits for service
abbrev is_serving_row : Row → Bool
is_serving_row r = is_parked r.place && not (is_lingering r)

pub serving-closed : RowsChange → (s : State) (name : ConnName) (why : Cause) (how : Tail) (was : Row) → slice_get s.rows name.slot ≡ Some was → is_parked was.place ≡ true
    → was.cause ≡ None → serving_count (next (next s (event.Hold name)) (event.Close name why how)) < serving_count s
serving-closed law s name why how was at waits none =
    let q : Row → Bool = is_serving_row in
    let held = update s.rows name.slot held_row in
    let there = law.there s.rows name.slot was held_row at in
    let serves : is_serving_row was ≡ true = rw (waits, none) refl in
    omega (
      arith,
      count-less q s.rows name.slot was held_row at serves refl,
      law.kept q held name.slot (held_row was) closed_row there (λ passes. absurd (closed-fails (held_row was) _ passes)),
    )

pub serving-lingers : RowsChange → (s : State) (name : ConnName) (why : Cause) (was : Row) → slice_get s.rows name.slot ≡ Some was → is_parked was.place ≡ true
    → was.cause ≡ None → serving_count (next (next s (event.Hold name)) (event.Linger name why)) < serving_count s
serving-lingers law s name why was at waits none =
    let q : Row → Bool = is_serving_row in
    let change : Row → Row = lingering_row (next s (event.Hold name)) why in
    let held = update s.rows name.slot held_row in
    let there = law.there s.rows name.slot was held_row at in
    let serves : is_serving_row was ≡ true = rw (waits, none) refl in
    omega (
      arith,
      count-less q s.rows name.slot was held_row at serves refl,
      law.kept q held name.slot (held_row was) change there (λ passes. absurd (cc)),
    )

-- ## Connections that wait

pub parked-closed : RowsChange → (s : State) (name : ConnName) (why : Cause) (how : Tail) (was : Row) → slice_get s.rows name.slot ≡ Some was → is_parked was.place ≡ true
    → parked_count (next (next s (event.Hold name)) (event.Close name why how)) < parked_count s
parked-closed law s name why how was at waits =
    let p : Row → Bool = λ (r : Row). is_parked r.place in
    let held = update s.rows name.slot held_row in
    let there = law.there s.rows name.slot was held_row at in
    let off = closed-off (held_row was) (was.life == greatest_life) refl in
    omega (
      arith,
      count-less p s.rows name.slot was held_row at waits refl,
      law.kept p held name.slot (held_row was) closed_row there (λ passes. absurd (cc)),
    )

-- ## Signals

-- one slot less is signalled
signal-less : (signals : List Bool) (slot : ℕ) → slice_index_or signals slot false ≡ true
    → count_by (λ (b : Bool). b) (slice_set signals slot false) < count_by (λ (b : Bool). b) signals
signal-less [] slot at = absurd (cc)
signal-less (x ∷ signals) zero at =
    rw (count-cons (λ (b : Bool). b) false signals, count-cons (λ (b : Bool). b) x signals, at) (omega arith)
signal-less (x ∷ signals) (suc slot) at =
    rw (count-cons (λ (b : Bool). b) x (slice_set signals slot false), count-cons (λ (b : Bool). b) x signals)
    (omega (arith, signal-less signals slot at))

-- no more are
signal-kept : (signals : List Bool) (slot : ℕ) → count_by (λ (b : Bool). b) (slice_set signals slot false) ≤ count_by (λ (b : Bool). b) signals
signal-kept [] slot = omega arith
signal-kept (x ∷ signals) zero =
    rw (count-cons (λ (b : Bool). b) false signals, count-cons (λ (b : Bool). b) x signals) (omega arith)
signal-kept (x ∷ signals) (suc slot) =
    rw (count-cons (λ (b : Bool). b) x (slice_set signals slot false), count-cons (λ (b : Bool). b) x signals)
    (omega (arith, signal-kept signals slot))

-- the signal of a lingering row goes as it is held
pub held-signals : (s : State) (name : ConnName) (was : Row) → slice_get s.rows name.slot ≡ Some was → is_lingering was ≡ true
    → is_signalled s name.slot ≡ true → signal_count (next s (event.Hold name)) < signal_count s
held-signals s name was at lingers signalled =
    let passes : row_passes is_lingering s.rows name.slot ≡ true = ap (λ (o : Option Row). option_map_or is_lingering o false) at ∙ lingers in
    let goes : (is_signalled s name.slot && not (row_passes is_lingering s.rows name.slot)) ≡ false = rw (signalled, passes) refl in
    subst (λ (b : Bool). count_by (λ (x : Bool). x) (slice_set s.signals name.slot b) < signal_count s) (sym goes) (signal-less s.signals name.slot signalled)

-- and it stays so after a close
pub closed-signals : (s : State) (name : ConnName) (why : Cause) (how : Tail) → signal_count (next s (event.Close name why how)) ≤ signal_count s
closed-signals s name why how = signal-kept s.signals name.slot

-- ## None is late

any-parts : (a b : Bool) → (a || b) ≡ false → (a ≡ false) × (b ≡ false)
any-parts false false none = (refl, refl)
any-parts false true none = absurd (cc)
any-parts true b none = absurd (cc)

-- where no item passes, that of a place doesn't
none-at : {X : Type 0} (p : X → Bool) (xs : List X) (i : ℕ) (x : X) → slice_get xs i ≡ Some x → list_any p xs ≡ false → p x ≡ false
none-at p [] i x at none = absurd (cc)
none-at p (z ∷ xs) zero x at none =
    let same : z ≡ x = cc in
    subst (λ y. p y ≡ false) same (any-parts (p z) (list_any p xs) none).0
none-at p (z ∷ xs) (suc i) x at none = none-at p xs i x at (any-parts (p z) (list_any p xs) none).1

second-fails : (a b : Bool) → a ≡ true → (a && b) ≡ false → b ≡ false
second-fails true b is none = none
second-fails false b is none = absurd (cc)

-- a row that waits has its deadline before it
pub deadline-later : (s : State) (slot : ℕ) (was : Row) → slice_get s.rows slot ≡ Some was → is_parked was.place ≡ true → NoneOverdue s
    → nat_le was.deadline s.moment ≡ false
deadline-later s slot was at waits none =
    second-fails (is_parked was.place) (nat_le was.deadline s.moment) waits (none-at (is_overdue s.moment) s.rows slot was at none)

pub later-than : (m n : ℕ) → nat_le n m ≡ false → nat_lt m n ≡ true
later-than m n not_before = grind (arith, nat_tests)

-- none is after one was held and closed
pub none-closed : RowsChange → (s : State) (name : ConnName) (why : Cause) (how : Tail) (was : Row) → slice_get s.rows name.slot ≡ Some was → NoneOverdue s
    → NoneOverdue (next (next s (event.Hold name)) (event.Close name why how))
none-closed law s name why how was at none =
    law.none (is_overdue s.moment) (update s.rows name.slot held_row) name.slot (held_row was) closed_row
    (law.there s.rows name.slot was held_row at) (closed-none (held_row was) _)
    (law.none (is_overdue s.moment) s.rows name.slot was held_row at refl none)

-- the deadline of a lingering row stays
parked-later : (s : State) (kind : Kind) (r : Row) → is_linger_kind kind ≡ true → nat_le r.deadline s.moment ≡ false
    → is_overdue s.moment (parked_row s kind r) ≡ false
parked-later s Reading r lingers later = absurd (cc)
parked-later s KeepAlive r lingers later = absurd (cc)
parked-later s Writing r lingers later = absurd (cc)
parked-later s Linger r lingers later = later
parked-later s ShortLinger r lingers later = later

-- and none is after one that lingers was held and waits on
pub none-parked_on : RowsChange → (s : State) (name : ConnName) (kind : Kind) (was : Row) → slice_get s.rows name.slot ≡ Some was → is_linger_kind kind ≡ true
    → nat_le was.deadline s.moment ≡ false → NoneOverdue s → NoneOverdue (next (next s (event.Hold name)) (event.Park name kind))
none-parked_on law s name kind was at lingers later none =
    law.none (is_overdue s.moment) (update s.rows name.slot held_row) name.slot (held_row was) (parked_row (next s (event.Hold name)) kind)
    (law.there s.rows name.slot was held_row at) (parked-later (next s (event.Hold name)) kind (held_row was) lingers later)
    (law.none (is_overdue s.moment) s.rows name.slot was held_row at refl none)

-- none that is late was found where none is
pub late-found : (s : State) (name : ConnName) → lives_and (is_late s name.slot) s.rows name ≡ true → NoneOverdue s → ⊥
late-found s name found none =
    let live = lives (is_late s name.slot) s.rows name found in
    let off = none-at (is_overdue s.moment) s.rows name.slot live.row (found-at s.rows name live.row live.found) none in
    let on = live.passes in
    absurd (cc)

-- ## The states in between

-- the state after a hold and what followed it
after-both : (s s' s2 : State) (name named : ConnName) (e : ConnName → Event) → s' ≡ next s (event.Hold name) → named ≡ name
    → s2 ≡ next s' (e named) → s2 ≡ next (next s (event.Hold name)) (e name)
after-both s s' s2 name named e held same is = is ∙ ap (λ (n : ConnName). next s' (e n)) same ∙ ap (λ (t : State). next t (e name)) held

-- one connection less waits after a hold and a close
pub parked-after : RowsChange → (s s' s2 : State) (name named : ConnName) (why : Cause) (how : Tail) (was : Row) → live_row s.rows name ≡ Some was
    → is_parked was.place ≡ true → s' ≡ next s (event.Hold name) → named ≡ name → s2 ≡ next s' (event.Close named why how) → parked_count s2 < parked_count s
parked-after law s s' s2 name named why how was found waits held same is =
    subst (λ (t : State). parked_count t < parked_count s) (sym (after-both s s' s2 name named (λ n. event.Close n why how) held same is))
    (parked-closed law s name why how was (found-at s.rows name was found) waits)

-- the weight of the late ones is less after a hold and a close
pub weight-after : RowsChange → (s s' s2 : State) (name named : ConnName) (why : Cause) (how : Tail) (was : Row) → live_row s.rows name ≡ Some was
    → is_overdue s.moment was ≡ true → s' ≡ next s (event.Hold name) → named ≡ name → s2 ≡ next s' (event.Close named why how)
    → late_weight s2 < late_weight s
weight-after law s s' s2 name named why how was found late held same is =
    subst (λ (t : State). late_weight t < late_weight s) (sym (after-both s s' s2 name named (λ n. event.Close n why how) held same is))
    (weight-closed law s name why how was (found-at s.rows name was found) late)

-- and after a hold, where it lingers then or was closed
pub weight-out : RowsChange → (s s' s2 : State) (name named : ConnName) (why : Cause) (way : Exit) (was : Row) → live_row s.rows name ≡ Some was
    → is_overdue s.moment was ≡ true → was.cause ≡ None → s' ≡ next s (event.Hold name) → named ≡ name → IsWayOut why way
    → s2 ≡ state_by s' (left_events way named) → late_weight s2 < late_weight s
weight-out law s s' s2 name named why way was found late none held same out is =
    elim out [
      | inl lingers ↦
          (let ends : s2 ≡ next s' (event.Linger named why) = is ∙ ap (λ (w : Exit). state_by s' (left_events w named)) lingers in
          subst (λ (t : State). late_weight t < late_weight s) (sym (after-both s s' s2 name named (λ n. event.Linger n why) held same ends))
          (weight-lingers law s name why was (found-at s.rows name was found) late none))
      | inr closed ↦
          weight-after law s s' s2 name named cause.LinkFailed tail.Direct was found late held same
          (is ∙ ap (λ (w : Exit). state_by s' (left_events w named)) closed)
    ]

-- the same of the connections that wait for service
pub serving-out : RowsChange → (s s' s2 : State) (name named : ConnName) (why : Cause) (way : Exit) (was : Row) → live_row s.rows name ≡ Some was
    → is_parked was.place ≡ true → was.cause ≡ None → s' ≡ next s (event.Hold name) → named ≡ name → IsWayOut why way
    → s2 ≡ state_by s' (left_events way named) → serving_count s2 < serving_count s
serving-out law s s' s2 name named why way was found waits none held same out is =
    elim out [
      | inl lingers ↦
          (let ends : s2 ≡ next s' (event.Linger named why) = is ∙ ap (λ (w : Exit). state_by s' (left_events w named)) lingers in
          subst (λ (t : State). serving_count t < serving_count s) (sym (after-both s s' s2 name named (λ n. event.Linger n why) held same ends))
          (serving-lingers law s name why was (found-at s.rows name was found) waits none))
      | inr closed ↦
          (let ends : s2 ≡ next s' (event.Close named cause.LinkFailed tail.Direct) = is ∙ ap (λ (w : Exit). state_by s' (left_events w named)) closed in
          subst (λ (t : State). serving_count t < serving_count s)
          (sym (after-both s s' s2 name named (λ n. event.Close n cause.LinkFailed tail.Direct) held same ends))
          (serving-closed law s name cause.LinkFailed tail.Direct was (found-at s.rows name was found) waits none))
    ]

-- a drained connection that was closed: fewer slots are signalled, and none is late
pub drained-closed : (s s' s2 : State) (name named : ConnName) (why : Cause) (how : Tail) (was : Row) → live_row s.rows name ≡ Some was
    → is_lingering was ≡ true → is_signalled s name.slot ≡ true → s' ≡ next s (event.Hold name) → named ≡ name → s2 ≡ next s' (event.Close named why how)
    → signal_count s2 < signal_count s
drained-closed s s' s2 name named why how was found lingers came held same is =
    subst (λ (t : State). signal_count t < signal_count s) (sym (after-both s s' s2 name named (λ n. event.Close n why how) held same is))
    (omega (
      arith,
      held-signals s name was (found-at s.rows name was found) lingers came,
      closed-signals (next s (event.Hold name)) name why how,
    ))

pub none-after_close : RowsChange → (s s' s2 : State) (name named : ConnName) (why : Cause) (how : Tail) (was : Row) → live_row s.rows name ≡ Some was → NoneOverdue s
    → s' ≡ next s (event.Hold name) → named ≡ name → s2 ≡ next s' (event.Close named why how) → NoneOverdue s2
none-after_close law s s' s2 name named why how was found none held same is =
    subst NoneOverdue (sym (after-both s s' s2 name named (λ n. event.Close n why how) held same is))
    (none-closed law s name why how was (found-at s.rows name was found) none)

-- and one that waits on
pub drained-parked : (s s' s2 : State) (name named : ConnName) (kind : Kind) (was : Row) → live_row s.rows name ≡ Some was → is_lingering was ≡ true
    → is_signalled s name.slot ≡ true → s' ≡ next s (event.Hold name) → named ≡ name → s2 ≡ next s' (event.Park named kind) → signal_count s2 < signal_count s
drained-parked s s' s2 name named kind was found lingers came held same is =
    subst (λ (t : State). signal_count t < signal_count s) (sym (after-both s s' s2 name named (λ n. event.Park n kind) held same is))
    (held-signals s name was (found-at s.rows name was found) lingers came)

pub none-after_park : RowsChange → (s s' s2 : State) (name named : ConnName) (kind : Kind) (was : Row) → live_row s.rows name ≡ Some was → is_parked was.place ≡ true
    → is_linger_kind kind ≡ true → NoneOverdue s → s' ≡ next s (event.Hold name) → named ≡ name → s2 ≡ next s' (event.Park named kind) → NoneOverdue s2
none-after_park law s s' s2 name named kind was found waits lingers none held same is =
    let at = (found-at s.rows name was found) in
    subst NoneOverdue (sym (after-both s s' s2 name named (λ n. event.Park n kind) held same is))
    (none-parked_on law s name kind was at lingers (deadline-later s name.slot was at waits none) none)
