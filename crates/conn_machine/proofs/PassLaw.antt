-- What the entries of a pass other than the listener leave of the state.
use Rattle.std.proofs.Common.{◌≡◌, ◌≢◌, ◌⊎◌, inl, inr, ⊎_elim, ℕ, zero, suc, ◌+◌, ◌<◌, ◌≤◌, ◌==◌, Bool, true, false, not, ◌&&◌, ◌||◌, List, [], ◌∷◌, ◌++◌, count_by, length, map, Option, Some, slice_get, slice_index_or, slice_set, is_none, refl, sym, ap, subst, ◌∙◌, append-nil, append_assoc, eq-eqb, arith}
use Rattle.std.specs.Option.{option_map_or}
use Rattle.std.specs.List.{range_with_len}
use Rattle.std.proofs.lemmas.List.{map-append}
use Rattle.std.proofs.lemmas.Bool.{and_from, and_parts, eqb-true}
use native.Mathlib.Decide.{ℕ_discrete}
use Rattle.mpm_base.specs.declared.conn.ConnName.{ConnName}
use Rattle.mpm_base.specs.declared.conn.Kind.{Kind}
use Rattle.mpm_base.specs.declared.conn.Kind.TheVariants.{Reading, KeepAlive, Writing, Linger, ShortLinger}
use Rattle.conn_machine.specs.declared.event.Event.{Event}
use Rattle.conn_machine.specs.declared.event.Event.TheVariants as event
use Rattle.conn_machine.specs.declared.event.Entry.{Entry}
use Rattle.conn_machine.specs.declared.folded.Folded.{Folded}
use Rattle.conn_machine.specs.declared.row.Place.{Place}
use Rattle.conn_machine.specs.declared.row.Place.TheVariants.{Vacant, Spent, Held, Parked, Queued, Working}
use Rattle.conn_machine.specs.declared.row.Row.{Row}
use Rattle.conn_machine.specs.declared.state.State.{State}
use Rattle.conn_machine.specs.Lists.{update}
use Rattle.conn_machine.specs.Rows.{is_from, is_held, is_lingering, is_parked, is_queued, is_with_a_pass, is_working, row_passes}
use Rattle.conn_machine.specs.States.{is_halted, is_signalled}
use Rattle.conn_machine.specs.Table.{answered_row, closed_row, end_fits, is_allowed, linger_cause_fits, lingering_row, may_be_queued, may_wait, next, parked_row, queued_row, served_row}
use Rattle.conn_machine.specs.Runs.{Adds, AreEntriesOf, IsNextOf, after, entries_of, may_make, row_from}
use Rattle.conn_machine.specs.Passes.{OnlyServes, asking_count, asks_service, lingers_at, waits_lingering}
use Rattle.conn_machine.proofs.HistoryLemmas.{entries_of-append}
use Rattle.conn_machine.proofs.OwnRows.{get_else, met, off}
use Rattle.conn_machine.proofs.RunLemmas.{after-append, after-snoc}
use Rattle.conn_machine.proofs.SizeLemmas.{length-rows}
use Rattle.conn_machine.proofs.UpdateLemmas.{count_cons, get_changed, test_le}
use Rattle.conn_machine.proofs.WeightLemmas.{signal-cleared}

-- ## Signals

-- a signal that is set after one was written was set before, or is the one that was written
signal-written : (signals : List Bool) (slot at : ℕ) (b : Bool) → slice_index_or (slice_set signals slot b) at false ≡ true
    → ((at ≡ slot) × (b ≡ true)) ⊎ (slice_index_or signals at false ≡ true)
signal-written [] slot at b set = inr set
signal-written (x ∷ signals) zero zero b set = inl (refl, set)
signal-written (x ∷ signals) zero (suc at) b set = inr set
signal-written (x ∷ signals) (suc slot) zero b set = inr set
signal-written (x ∷ signals) (suc slot) (suc at) b set =
    ⊎_elim
    (λ (here : (at ≡ slot) × (b ≡ true)). inl (ap suc here.0, here.1))
    (λ (there : slice_index_or signals at false ≡ true). inr there)
    (signal-written signals slot at b set)

-- no more of the numbers pass a test that each of them passes only with the other
pub range-few : (p q : ℕ → Bool) (a n : ℕ) → ((i : ℕ) → p i ≡ true → q i ≡ true) → count_by p (range_with_len a n) ≤ count_by q (range_with_len a n)
range-few p q a zero with_it = omega arith
range-few p q a (suc n) with_it =
    let here = test_le (p a) (q a) (with_it a) in
    let rest = range-few p q (a + 1) n with_it in
    rw (count_cons p a (range_with_len (a + 1) n), count_cons q a (range_with_len (a + 1) n)) (omega (arith, here, rest))

-- and fewer where one passes the other alone
range-fewer : (p q : ℕ → Bool) (a n at : ℕ) → ((i : ℕ) → p i ≡ true → q i ≡ true) → a ≤ at → at < a + n → q at ≡ true → p at ≡ false
    → count_by p (range_with_len a n) < count_by q (range_with_len a n)
range-fewer p q a zero at with_it low high passes fails = absurd (omega (arith, low, high))
range-fewer p q a (suc n) at with_it low high passes fails = elim (ℕ_discrete at a) [
  | yes e ↦
      let passes' : q a ≡ true = subst (λ (i : ℕ). q i ≡ true) e passes in
      let fails' : p a ≡ false = subst (λ (i : ℕ). p i ≡ false) e fails in
      let rest = range-few p q (a + 1) n with_it in
      rw (count_cons p a (range_with_len (a + 1) n), count_cons q a (range_with_len (a + 1) n), passes', fails') (omega (arith, rest))
  | no ne ↦
      let here = test_le (p a) (q a) (with_it a) in
      let rest = range-fewer p q (a + 1) n at with_it (omega (arith, low, ne)) (omega (arith, high)) passes fails in
      rw (count_cons p a (range_with_len (a + 1) n), count_cons q a (range_with_len (a + 1) n)) (omega (arith, here, rest))
]

-- ## One event

-- a connection that waits and lingers goes on so
abbrev pub LingersOnAt : State → State → Type 0
LingersOnAt s s' = (slot : ℕ) → lingers_at s slot ≡ true → lingers_at s' slot ≡ true

-- so much is left of a state
pub record Leaves (s s' : State) : Type 0 where
  pub rest : OnlyServes s s'
  pub lingers : LingersOnAt s s'

pub leaves_same : (s : State) → Leaves s s
leaves_same s = record {
  rest = record {
    moment = refl;
    accepted = refl;
    newest = refl;
    shape = refl;
    going = refl;
    children = refl;
    signals = λ slot set. inl set;
  };
  lingers = λ slot on. on;
}

-- a change of a row that doesn't wait in a linger leaves those that do
lingering_kept : (rows : List Row) (slot : ℕ) (r : Row) (change : Row → Row) → slice_get rows slot ≡ Some r → waits_lingering r ≡ false
    → (at : ℕ) → row_passes waits_lingering rows at ≡ true → row_passes waits_lingering (update rows slot change) at ≡ true
lingering_kept rows slot r change is fails at on = elim (ℕ_discrete at slot) [
  | yes e ↦ off (ap (λ (o : Option Row). option_map_or waits_lingering o false) is ∙ fails) (subst (λ (i : ℕ). row_passes waits_lingering rows i ≡ true) e on)
  | no ne ↦ ap (λ (o : Option Row). option_map_or waits_lingering o false) (get_else change rows slot at ne) ∙ on
]

-- so does an event that changes such a row, and at most the signal of its slot
leaves_row : (s : State) (slot : ℕ) (r : Row) (change : Row → Row) (signals : List Bool) → slice_get s.rows slot ≡ Some r → waits_lingering r ≡ false
    → ((at : ℕ) → slice_index_or signals at false ≡ true → (is_signalled s at ≡ true) ⊎ (row_passes waits_lingering (update s.rows slot change) at ≡ true))
    → Leaves s (record s { rows = update s.rows slot change; signals = signals })
leaves_row s slot r change signals is fails set = record {
  rest = record {
    moment = refl;
    accepted = refl;
    newest = refl;
    shape = refl;
    going = refl;
    children = refl;
    signals = set;
  };
  lingers = lingering_kept s.rows slot r change is fails;
}

-- the same, where the signals stay
leaves_quiet : (s : State) (slot : ℕ) (r : Row) (change : Row → Row) → slice_get s.rows slot ≡ Some r → waits_lingering r ≡ false
    → Leaves s (record s { rows = update s.rows slot change })
leaves_quiet s slot r change is fails = leaves_row s slot r change s.signals is fails (λ at set. inl set)

-- the same, where the signal goes
leaves_cleared : (s : State) (slot : ℕ) (r : Row) (change : Row → Row) → slice_get s.rows slot ≡ Some r → waits_lingering r ≡ false
    → Leaves s (record s { rows = update s.rows slot change; signals = slice_set s.signals slot false })
leaves_cleared s slot r change is fails =
    leaves_row s slot r change (slice_set s.signals slot false) is fails
    (λ at set. ⊎_elim
    (λ (here : (at ≡ slot) × (false ≡ true)). absurd (cc (here.1)))
    (λ (there : is_signalled s at ≡ true). inl there)
    (signal-written s.signals slot at false set))

-- the same, where the signal is set of a row that lingers then
leaves_set : (s : State) (slot : ℕ) (r : Row) (change : Row → Row) → slice_get s.rows slot ≡ Some r → waits_lingering r ≡ false
    → waits_lingering (change r) ≡ true
    → Leaves s (record s { rows = update s.rows slot change; signals = slice_set s.signals slot true })
leaves_set s slot r change is fails lingers =
    let there : row_passes waits_lingering (update s.rows slot change) slot ≡ true =
    ap (λ (o : Option Row). option_map_or waits_lingering o false) (get_changed s.rows slot r change is) ∙ lingers in
    leaves_row s slot r change (slice_set s.signals slot true) is fails
    (λ at set. ⊎_elim
    (λ (here : (at ≡ slot) × (true ≡ true)). inr (subst (λ (i : ℕ). row_passes waits_lingering (update s.rows slot change) i ≡ true) (sym here.0) there))
    (λ (before : is_signalled s at ≡ true). inl before)
    (signal-written s.signals slot at true set))

-- what is in hand doesn't wait
hand_waits_not : (r : Row) → is_with_a_pass r.place ≡ true → waits_lingering r ≡ false
hand_waits_not r hand = by r.place hand
  where
    by : (place : Place) → is_with_a_pass place ≡ true → (is_parked place && is_lingering r) ≡ false
    by Vacant hand = absurd (cc)
    by Spent hand = absurd (cc)
    by Held hand = refl
    by (Parked kind) hand = absurd (cc)
    by Queued hand = refl
    by (Working cell phase) hand = refl

held_in_hand : (place : Place) → is_held place ≡ true → is_with_a_pass place ≡ true
held_in_hand Held is = refl
held_in_hand Vacant is = absurd (cc)
held_in_hand Spent is = absurd (cc)
held_in_hand (Parked kind) is = absurd (cc)
held_in_hand Queued is = absurd (cc)
held_in_hand (Working cell phase) is = absurd (cc)

queued_in_hand : (place : Place) → is_queued place ≡ true → is_with_a_pass place ≡ true
queued_in_hand Queued is = refl
queued_in_hand Vacant is = absurd (cc)
queued_in_hand Spent is = absurd (cc)
queued_in_hand Held is = absurd (cc)
queued_in_hand (Parked kind) is = absurd (cc)
queued_in_hand (Working cell phase) is = absurd (cc)

working_in_hand : (place : Place) → is_working place ≡ true → is_with_a_pass place ≡ true
working_in_hand (Working cell phase) is = refl
working_in_hand Vacant is = absurd (cc)
working_in_hand Spent is = absurd (cc)
working_in_hand Held is = absurd (cc)
working_in_hand (Parked kind) is = absurd (cc)
working_in_hand Queued is = absurd (cc)

either_in_hand : (place : Place) → (is_held place || is_working place) ≡ true → is_with_a_pass place ≡ true
either_in_hand Held is = refl
either_in_hand (Working cell phase) is = refl
either_in_hand Vacant is = absurd (cc)
either_in_hand Spent is = absurd (cc)
either_in_hand (Parked kind) is = absurd (cc)
either_in_hand Queued is = absurd (cc)

-- one of two tests passes
one_of : (a b : Bool) → (a || b) ≡ true → (a ≡ true) ⊎ (b ≡ true)
one_of true b is = inl refl
one_of false b is = inr is

-- what may wait is in hand
may_wait_in_hand : (moment : ℕ) (kind : Kind) (r : Row) → may_wait moment kind r ≡ true → is_with_a_pass r.place ≡ true
may_wait_in_hand moment Reading r may =
    ⊎_elim
    (λ (held : (is_held r.place && is_none r.from) ≡ true). held_in_hand r.place (and_parts (is_held r.place) (is_none r.from) held).0)
    (λ (works : (is_working r.place && not r.last) ≡ true). working_in_hand r.place (and_parts (is_working r.place) (not r.last) works).0)
    (one_of (is_held r.place && is_none r.from) (is_working r.place && not r.last) may)
may_wait_in_hand moment KeepAlive r may =
    working_in_hand r.place (and_parts (is_working r.place) (not r.last) (and_parts (is_working r.place && not r.last) _ may).0).0
may_wait_in_hand moment Writing r may = working_in_hand r.place may
may_wait_in_hand moment Linger r may =
    held_in_hand r.place (and_parts (is_held r.place) (is_lingering r)
    (and_parts (is_held r.place && is_lingering r) (is_from Linger r)
    (and_parts (is_held r.place && is_lingering r && is_from Linger r) _ may).0).0).0
may_wait_in_hand moment ShortLinger r may =
    held_in_hand r.place (and_parts (is_held r.place) (is_lingering r)
    (and_parts (is_held r.place && is_lingering r) (is_from ShortLinger r)
    (and_parts (is_held r.place && is_lingering r && is_from ShortLinger r) _ may).0).0).0

-- what doesn't linger doesn't wait so
serves_on : (parked lingers : Bool) → not lingers ≡ true → (parked && lingers) ≡ false
serves_on parked true is = absurd (cc)
serves_on true false is = refl
serves_on false false is = refl

-- what only the listener may do, another pass doesn't
pub listener_alone : {P : Type 0} (p : ℕ) → p ≢ 0 → (p == 0) ≡ true → P
listener_alone p other is = absurd (other (eqb-true p 0 is))

not_true : (b : Bool) → not b ≡ true → b ≡ false
not_true true is = absurd (cc)
not_true false is = refl

-- an event that a pass other than the listener may make leaves so much
event_leaves : (s : State) (p : ℕ) (had : Option ConnName) (e : Event) → p ≢ 0 → is_allowed s e ≡ true → may_make p had e ≡ true
    → Leaves s (next s e)
event_leaves s p had (event.Accept slot) other may role = listener_alone p other (and_parts (p == 0) (is_none had) role).0
event_leaves s p had (event.Park name kind) other may role =
    let m = met (may_wait s.moment kind) s.rows name (and_parts (not (is_halted s.going)) _ may).1 in
    leaves_quiet s name.slot m.row (parked_row s kind) m.at (hand_waits_not m.row (may_wait_in_hand s.moment kind m.row m.passes))
event_leaves s p had (event.Hold name) other may role = listener_alone p other (and_parts (p == 0) (is_none had) role).0
event_leaves s p had (event.Queue name) other may role =
    let m = met (may_be_queued s) s.rows name (and_parts (not (is_halted s.going) && is_signalled s name.slot) _ may).1 in
    let serves = (and_parts (is_parked m.row.place) (not (is_lingering m.row)) (and_parts (is_parked m.row.place && not (is_lingering m.row)) _ m.passes).0).1 in
    leaves_cleared s name.slot m.row queued_row m.at (serves_on (is_parked m.row.place) (is_lingering m.row) serves)
event_leaves s p had (event.Start name) other may role =
    let m = met (λ r. is_queued r.place) s.rows name may in
    leaves_quiet s name.slot m.row (served_row s) m.at (hand_waits_not m.row (queued_in_hand m.row.place m.passes))
event_leaves s p had (event.Answer name ask) other may role =
    let m = met (λ r. is_working r.place && not r.last) s.rows name (and_parts (not (is_halted s.going)) _ may).1 in
    leaves_quiet s name.slot m.row (answered_row s name.slot ask) m.at
    (hand_waits_not m.row (working_in_hand m.row.place (and_parts (is_working m.row.place) (not m.row.last) m.passes).0))
event_leaves s p had (event.Linger name why) other may role =
    let m = met (λ r. not (is_lingering r) && linger_cause_fits s why (is_signalled s name.slot) r) s.rows name may in
    let serves = (and_parts (not (is_lingering m.row)) _ m.passes).0 in
    leaves_set s name.slot m.row (lingering_row s why) m.at (serves_on (is_parked m.row.place) (is_lingering m.row) serves) refl
event_leaves s p had (event.Close name why how) other may role =
    let m = met (λ r. (is_held r.place || is_working r.place) && end_fits s why how r) s.rows name may in
    leaves_cleared s name.slot m.row closed_row m.at
    (hand_waits_not m.row (either_in_hand m.row.place (and_parts (is_held m.row.place || is_working m.row.place) _ m.passes).0))
event_leaves s p had (event.Ready slot) other may role = listener_alone p other role
event_leaves s p had (event.Tick m) other may role = listener_alone p other role
event_leaves s p had (event.StartChild k) other may role = listener_alone p other role
event_leaves s p had (event.Command c) other may role = listener_alone p other role
event_leaves s p had (event.Retire k) other may role = listener_alone p other role

-- ## One event after the other

pub leaves_more : (a b c : State) → Leaves a b → Leaves b c → Leaves a c
leaves_more a b c first second = record {
  rest = record {
    moment = second.rest.moment ∙ first.rest.moment;
    accepted = second.rest.accepted ∙ first.rest.accepted;
    newest = second.rest.newest ∙ first.rest.newest;
    shape = second.rest.shape ∙ first.rest.shape;
    going = second.rest.going ∙ first.rest.going;
    children = second.rest.children ∙ first.rest.children;
    signals = λ slot set. ⊎_elim
        (λ (middle : is_signalled b slot ≡ true). ⊎_elim
        (λ (before : is_signalled a slot ≡ true). inl before)
        (λ (on : lingers_at b slot ≡ true). inr (second.lingers slot on))
        (first.rest.signals slot middle))
        (λ (on : lingers_at c slot ≡ true). inr on)
        (second.rest.signals slot set);
  };
  lingers = λ slot on. second.lingers slot (first.lingers slot on);
}

pub entry_leaves : (p : ℕ) (base : State) (f : Folded) (before : List Entry) (e : Entry) → p ≢ 0 → IsNextOf p base f before e
    → Leaves (after base before) (after base (before ++ e ∷ []))
entry_leaves p base f before e other is =
    subst (Leaves (after base before)) (sym (after-snoc base before e))
    (event_leaves (after base before) p (row_from f p before) e.event other is.is_allowed is.role)

entries_leave : (p : ℕ) (base : State) (f : Folded) (before added : List Entry) → p ≢ 0 → AreEntriesOf p base f before added
    → Leaves (after base before) (after base (before ++ added))
entries_leave p base f before [] other are =
    subst (λ (h : List Entry). Leaves (after base before) (after base h)) (sym (append-nil before)) (leaves_same (after base before))
entries_leave p base f before (e ∷ added) other are =
    leaves_more (after base before) (after base (before ++ e ∷ [])) (after base (before ++ e ∷ added))
    (entry_leaves p base f before e other are.0)
    (subst (λ (h : List Entry). Leaves (after base (before ++ e ∷ [])) (after base h)) (append_assoc before (e ∷ []) added)
    (entries_leave p base f (before ++ e ∷ []) added other are.1))

adds_leave : (p : ℕ) (base : State) (f : Folded) (old new : List Entry) → p ≢ 0 → Adds p base f old new → Leaves (after base old) (after base new)
adds_leave p base f old new other adds =
    subst (λ (h : List Entry). Leaves (after base old) (after base h)) (sym adds.1) (entries_leave p base f old adds.0 other adds.2)

-- what the entries of a pass other than the listener leave
pub adds_only_serve : (p : ℕ) (base : State) (f : Folded) (old new : List Entry) → p ≢ 0 → Adds p base f old new → OnlyServes (after base old) (after base new)
adds_only_serve p base f old new other adds = (adds_leave p base f old new other adds).rest

-- ## How many slots ask for service

-- what asks afterwards asked before
pub asked_before : (s s' : State) → Leaves s s' → (slot : ℕ) → asks_service s' slot ≡ true → asks_service s slot ≡ true
asked_before s s' left slot asks =
    let set : is_signalled s' slot ≡ true = (and_parts (is_signalled s' slot) (not (lingers_at s' slot)) asks).0 in
    let serves : lingers_at s' slot ≡ false = not_true (lingers_at s' slot) (and_parts (is_signalled s' slot) (not (lingers_at s' slot)) asks).1 in
    let before : is_signalled s slot ≡ true = ⊎_elim
    (λ (was : is_signalled s slot ≡ true). was)
    (λ (on : lingers_at s' slot ≡ true). off serves on)
    (left.rest.signals slot set) in
    and_from (is_signalled s slot) (not (lingers_at s slot)) before (served (lingers_at s slot) refl serves)
  where
    served : (b : Bool) → lingers_at s slot ≡ b → lingers_at s' slot ≡ false → not (lingers_at s slot) ≡ true
    served true on serves = off serves (left.lingers slot on)
    served false on serves = ap not on

-- there are as many rows after entries
as_many_rows : (s : State) (entries : List Entry) → length (after s entries).rows ≡ length s.rows
as_many_rows s [] = refl
as_many_rows s (e ∷ entries) = as_many_rows (next s e.event) entries ∙ length-rows s e.event

pub same_rows : (base : State) (old added : List Entry) → length (after base (old ++ added)).rows ≡ length (after base old).rows
same_rows base old added = ap (λ (s : State). length s.rows) (after-append base old added) ∙ as_many_rows (after base old) added

-- so no more slots do
pub adds_ask_none : (p : ℕ) (base : State) (f : Folded) (old new : List Entry) → p ≢ 0 → Adds p base f old new
    → asking_count (after base new) ≤ asking_count (after base old)
adds_ask_none p base f old new other adds =
    let s = after base old in
    let s' = after base new in
    let rows : length s'.rows ≡ length s.rows = ap (λ (h : List Entry). length (after base h).rows) adds.1 ∙ same_rows base old adds.0 in
    subst (λ (n : ℕ). count_by (asks_service s') (range_with_len 0 n) ≤ asking_count s) (sym rows)
    (range-few (asks_service s') (asks_service s) 0 (length s.rows) (asked_before s s' (adds_leave p base f old new other adds)))

-- a slot that is queued asked, and does no more
queue_clears : (s : State) (name : ConnName) → is_allowed s (event.Queue name) ≡ true
    → (name.slot < length s.rows) × (asks_service s name.slot ≡ true) × (asks_service (next s (event.Queue name)) name.slot ≡ false)
queue_clears s name may =
    let set : is_signalled s name.slot ≡ true =
    (and_parts (not (is_halted s.going)) (is_signalled s name.slot) (and_parts (not (is_halted s.going) && is_signalled s name.slot) _ may).0).1 in
    let m = met (may_be_queued s) s.rows name (and_parts (not (is_halted s.going) && is_signalled s name.slot) _ may).1 in
    let serves = (and_parts (is_parked m.row.place) (not (is_lingering m.row)) (and_parts (is_parked m.row.place && not (is_lingering m.row)) _ m.passes).0).1 in
    let lingers : lingers_at s name.slot ≡ false =
    ap (λ (o : Option Row). option_map_or waits_lingering o false) m.at ∙ serves_on (is_parked m.row.place) (is_lingering m.row) serves in (
      below_length s.rows name.slot m.row m.at,
      and_from (is_signalled s name.slot) (not (lingers_at s name.slot)) set (ap not lingers),
      ap (λ (b : Bool). b && not (lingers_at (next s (event.Queue name)) name.slot)) (signal-cleared s.signals name.slot),
    )
  where
    below_length : (rows : List Row) (slot : ℕ) (r : Row) → slice_get rows slot ≡ Some r → slot < length rows
    below_length [] slot r at = absurd (cc)
    below_length (x ∷ rows) zero r at = omega arith
    below_length (x ∷ rows) (suc slot) r at = let b = below_length rows slot r at in omega (arith, b)

-- what doesn't ask goes on so
unasked : (s s' : State) → Leaves s s' → (slot : ℕ) → asks_service s slot ≡ false → asks_service s' slot ≡ false
unasked s s' left slot none = by (asks_service s' slot) refl
  where
    by : (b : Bool) → asks_service s' slot ≡ b → asks_service s' slot ≡ false
    by true asks = off none (asked_before s s' left slot asks)
    by false asks = asks

entries_clear : (p : ℕ) (base : State) (f : Folded) (old : List Entry) (e : Entry) (rest : List Entry) (name : ConnName) → p ≢ 0
    → AreEntriesOf p base f old (e ∷ rest) → e.event ≡ event.Queue name
    → asking_count (after base (old ++ e ∷ rest)) < asking_count (after base old)
entries_clear p base f old e rest name other are queues =
    let s = after base old in
    let s' = after base (old ++ e ∷ rest) in
    let clears = queue_clears s name (ap (is_allowed s) (sym queues) ∙ are.0.is_allowed) in
    let first : asks_service (after base (old ++ e ∷ [])) name.slot ≡ false =
    ap (λ (t : State). asks_service t name.slot) (after-snoc base old e ∙ ap (next s) queues) ∙ clears.2 in
    let behind : Leaves (after base (old ++ e ∷ [])) s' =
    subst (λ (h : List Entry). Leaves (after base (old ++ e ∷ [])) (after base h)) (append_assoc old (e ∷ []) rest)
    (entries_leave p base f (old ++ e ∷ []) rest other are.1) in
    let high : name.slot < 0 + length s.rows = omega (arith, clears.0) in
    subst (λ (n : ℕ). count_by (asks_service s') (range_with_len 0 n) < asking_count s) (sym (same_rows base old (e ∷ rest)))
    (range-fewer (asks_service s') (asks_service s) 0 (length s.rows) name.slot
    (asked_before s s' (entries_leave p base f old (e ∷ rest) other are)) (omega arith) high
    clears.1 (unasked (after base (old ++ e ∷ [])) s' behind name.slot first))

-- the second parts of a list with a common first part
same_behind : {X : Type 0} (old a b : List X) → old ++ a ≡ old ++ b → a ≡ b
same_behind [] a b same = same
same_behind (x ∷ old) a b same = same_behind old a b (cc)

-- all entries of a pass are of the pass
own_entries : (p : ℕ) (base : State) (f : Folded) (before added : List Entry) → AreEntriesOf p base f before added → entries_of p added ≡ added
own_entries p base f before [] are = refl
own_entries p base f before (e ∷ added) are =
    rw (eq-eqb e.pass p are.0.pass) (ap (λ (es : List Entry). e ∷ es) (own_entries p base f (before ++ e ∷ []) added are.1))

-- their events are those that the pass has more
added_events : (p : ℕ) (base : State) (f : Folded) (old added : List Entry) (events : List Event) → AreEntriesOf p base f old added
    → map (λ e. e.event) (entries_of p (old ++ added)) ≡ map (λ e. e.event) (entries_of p old) ++ events → map (λ e. e.event) added ≡ events
added_events p base f old added events are grown =
    same_behind (map (λ (e : Entry). e.event) (entries_of p old)) (map (λ (e : Entry). e.event) added) events
    (sym (ap (map (λ (e : Entry). e.event)) (entries_of-append p old added ∙ ap (λ (es : List Entry). entries_of p old ++ es) (own_entries p base f old added are))
    ∙ map-append (λ (e : Entry). e.event) (entries_of p old) added)
    ∙ grown)

-- fewer slots ask once a connection was handed to the workers
pub adds_clear : (p : ℕ) (base : State) (f : Folded) (old new : List Entry) (name : ConnName) (events : List Event) → p ≢ 0 → Adds p base f old new
    → map (λ e. e.event) (entries_of p new) ≡ map (λ e. e.event) (entries_of p old) ++ event.Queue name ∷ events
    → asking_count (after base new) < asking_count (after base old)
adds_clear p base f old new name events other adds grown =
    subst (λ (h : List Entry). asking_count (after base h) < asking_count (after base old)) (sym adds.1)
    (by adds.0 adds.2 (added_events p base f old adds.0 (event.Queue name ∷ events) adds.2 (ap (λ (h : List Entry). map (λ (e : Entry). e.event) (entries_of p h)) (sym adds.1) ∙ grown)))
  where
    by : (added : List Entry) → AreEntriesOf p base f old added → map (λ (e : Entry). e.event) added ≡ event.Queue name ∷ events
        → asking_count (after base (old ++ added)) < asking_count (after base old)
    by [] are same = absurd (cc)
    by (e ∷ rest) are same = entries_clear p base f old e rest name other are (cc)
