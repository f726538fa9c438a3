-- A change of one row that keeps a sound state sound.
use Rattle.std.proofs.Common.{◌≡◌, ◌⊎◌, inl, inr, ◌<◌, ◌≤◌, ℕ, ◌+◌, ◌*◌, ◌==◌, Bool, true, false, List, count_by, Some, slice_get, refl, sym, ap, subst, ◌∙◌, arith}
use Rattle.std.proofs.lemmas.Bool.{eqb-true}
use Rattle.std.proofs.Math.Bool.{and-false}
use Rattle.mpm_base.specs.Count.{greatest_count, next_count}
use Rattle.conn_machine.specs.declared.row.Row.{Row}
use Rattle.conn_machine.specs.declared.state.State.{State}
use Rattle.conn_machine.specs.Lists.{update}
use Rattle.conn_machine.specs.Rows.{is_live, is_live_in, carried_count, is_carried_by, open_count, is_open_in, is_served_in}
use Rattle.conn_machine.specs.Children.{child_at, is_empty}
use Rattle.conn_machine.specs.States.{child_of}
use Rattle.mpm_base.specs.Moment.{greatest_moment}
use Rattle.conn_machine.specs.Sound.{EachLive, IsCarriable, IsAdmissible, IsEmptyChild, IsOfChild, CellIsBelow, KindFits, RequestFits, HasSoundNotes, ArrivalsDiffer, HasSoundArrivals, HaveDeadlinesInRange, IsSound}
use Rattle.conn_machine.proofs.UpdateLemmas.{IsUpdated, get_update, count_update, none_update}

-- what the row that takes the place of another owes, in a sound state
pub record IsFair (s : State) (r r' : Row) : Type 0 where
  pub carried : (k : ℕ) → is_carried_by k r' ≡ true
      → (is_carried_by k r ≡ true) ⊎ (carried_count s.rows k < (child_at s.children k).shape.threads)
  pub admitted : (k : ℕ) → is_open_in k r' ≡ true
      → (is_open_in k r ≡ true)
      ⊎ (100 * (open_count s.rows k + 1)
      ≤ 100 * (child_at s.children k).shape.threads + (child_at s.children k).shape.factor * (child_at s.children k).shape.threads + 99)
  pub cell : (k c : ℕ) → is_served_in k c r' ≡ true
      → (is_served_in k c r ≡ true) ⊎ (count_by (is_served_in k c) s.rows ≡ 0)
  pub owner : is_live r' ≡ true → IsOfChild s r'
  pub below : is_live r' ≡ true → CellIsBelow (child_of s r').shape.threads r'.place
  pub kind : is_live r' ≡ true → KindFits r'.place r'
  pub request : is_live r' ≡ true → RequestFits r'.place r'
  pub notes : is_live r' ≡ true → HasSoundNotes (child_of s r').shape.most r'
  pub deadline : r'.deadline ≤ greatest_moment

-- the row keeps its arrival
pub record KeepsArrival (s : State) (accepted' : ℕ) (r r' : Row) : Type 0 where
  pub count : accepted' ≡ s.accepted
  pub live : is_live r' ≡ true → is_live r ≡ true
  pub arrival : r'.arrival ≡ r.arrival

-- the row is that of the next arrival
pub record ArrivesNext (s : State) (accepted' : ℕ) (r r' : Row) : Type 0 where
  pub count : accepted' ≡ next_count s.accepted
  pub arrival : r'.arrival ≡ s.accepted

abbrev pub Arrives : State → ℕ → Row → Row → Type 0
Arrives s accepted' r r' = KeepsArrival s accepted' r r' ⊎ ArrivesNext s accepted' r r'

-- the state with the row of the slot changed, with these signals and so many arrivals
abbrev changed : State → ℕ → (Row → Row) → List Bool → ℕ → State
changed s slot change signals' accepted' = record s { rows = update s.rows slot change; signals = signals'; accepted = accepted' }

-- the workers of a child still carry no more than there are
carried_stays : (s : State) (slot : ℕ) (r : Row) (change : Row → Row) (signals' : List Bool) (accepted' : ℕ) → IsSound s
    → slice_get s.rows slot ≡ Some r → IsFair s r (change r) → IsCarriable (changed s slot change signals' accepted')
carried_stays s slot r change signals' accepted' sound at fair k =
    let before = sound.carried k in
    elim (count_update (is_carried_by k) s.rows slot r change (carried_count s.rows k < (child_at s.children k).shape.threads) at (fair.carried k)) [
      | inl kept ↦ omega (arith, kept, before)
      | inr more ↦ omega (arith, more.0, more.1)
    ]

-- the open connections of a child stay within its limit
admitted_stays : (s : State) (slot : ℕ) (r : Row) (change : Row → Row) (signals' : List Bool) (accepted' : ℕ) → IsSound s
    → slice_get s.rows slot ≡ Some r → IsFair s r (change r) → IsAdmissible (changed s slot change signals' accepted')
admitted_stays s slot r change signals' accepted' sound at fair k =
    let before = sound.admitted k in
    elim (count_update (is_open_in k) s.rows slot r change _ at (fair.admitted k)) [
      | inl kept ↦ omega (arith, kept, before)
      | inr more ↦ omega (arith, more.0, more.1)
    ]

-- no cell of a child has two rows
differ_stay : (s : State) (slot : ℕ) (r : Row) (change : Row → Row) → IsSound s → slice_get s.rows slot ≡ Some r → IsFair s r (change r)
    → (k c : ℕ) → count_by (is_served_in k c) (update s.rows slot change) ≤ 1
differ_stay s slot r change sound at fair k c =
    let before = sound.cells.differ k c in
    elim (count_update (is_served_in k c) s.rows slot r change _ at (fair.cell k c)) [
      | inl kept ↦ omega (arith, kept, before)
      | inr more ↦ omega (arith, more.0, more.1)
    ]

-- a row of the changed table that is live has a property which the old rows had, and the changed one
live_by : (P : Row → Type 0) (rows : List Row) (slot j : ℕ) (r' x : Row) → EachLive P rows → (is_live r' ≡ true → P r')
    → IsUpdated rows slot r' j x → is_live x ≡ true → P x
live_by P rows slot j r' x each own (inl here) live =
    subst P (sym here.1) (own (subst (λ y. is_live y ≡ true) here.1 live))
live_by P rows slot j r' x each own (inr old) live = each j x old live

-- so each live row has it
each_update : (P : Row → Type 0) (rows : List Row) (slot : ℕ) (r : Row) (change : Row → Row) → slice_get rows slot ≡ Some r → EachLive P rows
    → (is_live (change r) ≡ true → P (change r)) → EachLive P (update rows slot change)
each_update P rows slot r change at each own j x got live =
    live_by P rows slot j (change r) x each own (get_update rows slot j r x change at got) live

-- a live row is of no child that is gone
none_gone : (s : State) (k : ℕ) (r : Row) (live mine : Bool) → is_live r ≡ live → r.child == k ≡ mine → (is_live r ≡ true → IsOfChild s r)
    → is_empty (child_at s.children k).phase ≡ true → is_live_in k r ≡ false
none_gone s k r true true is same owner gone =
    let e : r.child ≡ k = eqb-true r.child k same in
    let there : is_empty (child_at s.children k).phase ≡ false = subst (λ (n : ℕ). is_empty (child_at s.children n).phase ≡ false) e (owner is).there in
    absurd (cc)
none_gone s k r true false is same owner gone = rw same refl
none_gone s k r false mine is same owner gone = rw (same, is) (and-false mine)

-- a child that is gone has no live row
gone_stays : (s : State) (slot : ℕ) (r : Row) (change : Row → Row) → IsSound s → slice_get s.rows slot ≡ Some r → IsFair s r (change r)
    → (k : ℕ) → is_empty (child_at s.children k).phase ≡ true → IsEmptyChild (update s.rows slot change) k (child_at s.children k)
gone_stays s slot r change sound at fair k gone = record {
  none_live =
      none_update (is_live_in k) s.rows slot r change at
      (none_gone s k (change r) (is_live (change r)) ((change r).child == k) refl refl fair.owner gone)
      (sound.children.gone k gone).none_live;
  none_works = (sound.children.gone k gone).none_works;
}

-- the live rows are still of children that are there
owners_stay : (s : State) (slot : ℕ) (r : Row) (change : Row → Row) (signals' : List Bool) (accepted' : ℕ) → IsSound s
    → slice_get s.rows slot ≡ Some r → IsFair s r (change r)
    → EachLive (IsOfChild (changed s slot change signals' accepted')) (update s.rows slot change)
owners_stay s slot r change signals' accepted' sound at fair j x got live =
    let own = each_update (IsOfChild s) s.rows slot r change at sound.owners fair.owner j x got live in
    record { exists = own.exists; there = own.there; generation = own.generation }

-- a row of the changed table has its deadline in range where the old rows had, and the changed one has
deadline_by : (rows : List Row) (slot j : ℕ) (r' x : Row) → HaveDeadlinesInRange rows → r'.deadline ≤ greatest_moment
    → IsUpdated rows slot r' j x → x.deadline ≤ greatest_moment
deadline_by rows slot j r' x each own (inl here) = subst (λ (y : Row). y.deadline ≤ greatest_moment) (sym here.1) own
deadline_by rows slot j r' x each own (inr old) = each j x old

-- the deadlines stay in range
deadlines_stay : (rows : List Row) (slot : ℕ) (r : Row) (change : Row → Row) → slice_get rows slot ≡ Some r → HaveDeadlinesInRange rows
    → (change r).deadline ≤ greatest_moment → HaveDeadlinesInRange (update rows slot change)
deadlines_stay rows slot r change at each own j x got =
    deadline_by rows slot j (change r) x each own (get_update rows slot j r x change at got)

-- two rows of the changed table, where the changed row keeps its arrival
kept_differ : (s : State) (slot i j : ℕ) (r r' x y : Row) (accepted' : ℕ) → ArrivalsDiffer s.rows → slice_get s.rows slot ≡ Some r
    → KeepsArrival s accepted' r r' → IsUpdated s.rows slot r' i x → IsUpdated s.rows slot r' j y
    → is_live x ≡ true → is_live y ≡ true → x.arrival ≡ y.arrival → i ≡ j
kept_differ s slot i j r r' x y accepted' differ at keeps (inl here) (inl there) live live' same = here.0 ∙ sym there.0
kept_differ s slot i j r r' x y accepted' differ at keeps (inl here) (inr old) live live' same =
    let lived : is_live r ≡ true = keeps.live (subst (λ z. is_live z ≡ true) here.1 live) in
    let e : r.arrival ≡ y.arrival = sym keeps.arrival ∙ (ap (λ (z : Row). z.arrival) (sym here.1) ∙ same) in
    here.0 ∙ differ slot j r y at old lived live' e
kept_differ s slot i j r r' x y accepted' differ at keeps (inr old) (inl there) live live' same =
    let lived : is_live r ≡ true = keeps.live (subst (λ z. is_live z ≡ true) there.1 live') in
    let e : x.arrival ≡ r.arrival = same ∙ (ap (λ (z : Row). z.arrival) there.1 ∙ keeps.arrival) in
    differ i slot x r old at live lived e ∙ sym there.0
kept_differ s slot i j r r' x y accepted' differ at keeps (inr old) (inr old') live live' same =
    differ i j x y old old' live live' same

-- the same where the changed row is the next to arrive
next_differ : (s : State) (slot i j : ℕ) (r' x y : Row) → HasSoundArrivals s → r'.arrival ≡ s.accepted
    → IsUpdated s.rows slot r' i x → IsUpdated s.rows slot r' j y
    → is_live x ≡ true → is_live y ≡ true → x.arrival ≡ y.arrival → i ≡ j
next_differ s slot i j r' x y sound arrival (inl here) (inl there) live live' same = here.0 ∙ sym there.0
next_differ s slot i j r' x y sound arrival (inl here) (inr old) live live' same =
    let e : y.arrival ≡ s.accepted = sym same ∙ (ap (λ (z : Row). z.arrival) here.1 ∙ arrival) in
    absurd (omega (arith, e, sound.below j y old live'))
next_differ s slot i j r' x y sound arrival (inr old) (inl there) live live' same =
    let e : x.arrival ≡ s.accepted = same ∙ (ap (λ (z : Row). z.arrival) there.1 ∙ arrival) in
    absurd (omega (arith, e, sound.below i x old live))
next_differ s slot i j r' x y sound arrival (inr old) (inr old') live live' same =
    sound.differ i j x y old old' live live' same

-- arrivals stay sound where the changed row keeps its own
kept_arrivals : (s : State) (slot : ℕ) (r : Row) (change : Row → Row) (signals' : List Bool) (accepted' : ℕ) → HasSoundArrivals s
    → slice_get s.rows slot ≡ Some r → KeepsArrival s accepted' r (change r) → HasSoundArrivals (changed s slot change signals' accepted')
kept_arrivals s slot r change signals' accepted' sound at keeps = record {
  differ =
      λ i j x y got got' live live' same.
      kept_differ s slot i j r (change r) x y accepted' sound.differ at keeps
      (get_update s.rows slot i r x change at got) (get_update s.rows slot j r y change at got') live live' same;
  below =
      rw keeps.count
      (each_update (λ x. x.arrival < s.accepted) s.rows slot r change at sound.below
      (λ live. rw keeps.arrival (sound.below slot r at (keeps.live live))));
}

-- the same where it is the next to arrive, and a further one can still be numbered
next_arrivals : (s : State) (slot : ℕ) (r : Row) (change : Row → Row) (signals' : List Bool) (accepted' : ℕ) → HasSoundArrivals s
    → slice_get s.rows slot ≡ Some r → (change r).arrival ≡ s.accepted → s.accepted < accepted' → HasSoundArrivals (changed s slot change signals' accepted')
next_arrivals s slot r change signals' accepted' sound at arrival more = record {
  differ =
      λ i j x y got got' live live' same.
      next_differ s slot i j (change r) x y sound arrival
      (get_update s.rows slot i r x change at got) (get_update s.rows slot j r y change at got') live live' same;
  below =
      each_update (λ x. x.arrival < accepted') s.rows slot r change at
      (λ j x got live. omega (arith, more, sound.below j x got live))
      (λ live. rw arrival more);
}

-- the next arrival can be numbered only if this one could
next_numbered : (n m : ℕ) → m ≡ next_count n → m < greatest_count → (n < greatest_count) × (n < m)
next_numbered n m is below = (omega (arith, is, below), omega (arith, is, below))

-- the arrivals stay numbered while their count can rise
arrivals_stay : (s : State) (slot : ℕ) (r : Row) (change : Row → Row) (signals' : List Bool) (accepted' : ℕ) → IsSound s
    → slice_get s.rows slot ≡ Some r → Arrives s accepted' r (change r) → accepted' < greatest_count
    → HasSoundArrivals (changed s slot change signals' accepted')
arrivals_stay s slot r change signals' accepted' sound at (inl keeps) below =
    kept_arrivals s slot r change signals' accepted' (sound.numbers.arrivals (subst (λ (n : ℕ). n < greatest_count) keeps.count below)) at keeps
arrivals_stay s slot r change signals' accepted' sound at (inr next) below =
    let more = next_numbered s.accepted accepted' next.count below in
    next_arrivals s slot r change signals' accepted' (sound.numbers.arrivals more.0) at next.arrival more.1

-- a fair change of one row keeps a sound state sound, whatever becomes of the signals
pub fair_update : (s : State) (slot : ℕ) (r : Row) (change : Row → Row) (signals' : List Bool) (accepted' : ℕ) → IsSound s
    → slice_get s.rows slot ≡ Some r → IsFair s r (change r) → Arrives s accepted' r (change r)
    → IsSound (record s { rows = update s.rows slot change; signals = signals'; accepted = accepted' })
fair_update s slot r change signals' accepted' sound at fair arrives = record {
  carried = carried_stays s slot r change signals' accepted' sound at fair;
  admitted = admitted_stays s slot r change signals' accepted' sound at fair;
  running = λ k runs. record { generation = (sound.running k runs).generation; serving = (sound.running k runs).serving };
  children = record {
    gone = gone_stays s slot r change sound at fair;
    shapes = sound.children.shapes;
    newest = sound.children.newest;
  };
  owners = owners_stay s slot r change signals' accepted' sound at fair;
  cells = record {
    differ = differ_stay s slot r change sound at fair;
    below = each_update (λ x. CellIsBelow (child_of s x).shape.threads x.place) s.rows slot r change at sound.cells.below fair.below;
  };
  kinds = each_update (λ x. KindFits x.place x) s.rows slot r change at sound.kinds fair.kind;
  requests = each_update (λ x. RequestFits x.place x) s.rows slot r change at sound.requests fair.request;
  notes = each_update (λ x. HasSoundNotes (child_of s x).shape.most x) s.rows slot r change at sound.notes fair.notes;
  numbers = record {
    moment = sound.numbers.moment;
    deadlines = deadlines_stay s.rows slot r change at sound.numbers.deadlines fair.deadline;
    arrivals = arrivals_stay s slot r change signals' accepted' sound at arrives;
  };
}
