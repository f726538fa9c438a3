-- Each connection that was taken has an arrival of its own, by which it is live or was closed once.
use Rattle.std.proofs.Common.{◌≡◌, ◌<◌, ◌≤◌, ℕ, ◌+◌, Bool, true, false, ◌&&◌, ◌||◌, ◌==◌, nat_lt, List, [], ◌∷◌, count_by, cond, min, slice_get, refl, sym, ap, ◌∙◌, arith}
use Rattle.std.proofs.Math.Nat.{min-le_right}
use Rattle.std.proofs.lemmas.Bool.{and_left, and_parts, eqb-false, eqb-true, lt-ltb, le-ltb, ltb-true, ltb-false}
use Rattle.std.proofs.lemmas.List.Sums.{sum_by-append}
use Rattle.mpm_base.specs.Count.{greatest_count, next_count}
use Rattle.mpm_base.specs.declared.conn.ConnName.{ConnName}
use Rattle.mpm_base.specs.declared.conn.Cause.{Cause}
use Rattle.mpm_base.specs.declared.conn.Tail.{Tail}
use Rattle.mpm_base.specs.declared.shape.Shape.{Shape}
use Rattle.conn_machine.specs.declared.row.Row.{Row}
use Rattle.conn_machine.specs.declared.event.Event.{Event}
use Rattle.conn_machine.specs.declared.event.Event.TheVariants as event
use Rattle.conn_machine.specs.declared.event.Entry.{Entry}
use Rattle.conn_machine.specs.declared.state.State.{State}
use Rattle.conn_machine.specs.Arrivals.{arrival_count, arrival_in, closed_arrival, closed_arrivals, has_arrival}
use Rattle.conn_machine.specs.Rows.{is_held, is_working, is_live}
use Rattle.conn_machine.specs.States.{opening_state, unused_row}
use Rattle.conn_machine.specs.Table.{is_allowed, next, taken_row, next_accept, end_fits, closed_row, next_close, may_accept, may_close}
use Rattle.conn_machine.specs.Runs.{Run, after}
use Rattle.conn_machine.specs.Events.{count_events, is_accept, is_close}
use Rattle.conn_machine.proofs.AcceptedLaw.{counted, counted_command, counts}
use Rattle.conn_machine.proofs.AllowedLemmas.{accept-row}
use Rattle.conn_machine.proofs.CountLemmas.{IsSteady, closed_row-live, comes, count_none, goes, not_live, one_if, others}
use Rattle.conn_machine.proofs.NoteLaw.{named_where}
use Rattle.conn_machine.proofs.OwnRows.{met}
use Rattle.conn_machine.proofs.UpdateLemmas.{count_cons}

-- how many live connections have the arrival
abbrev pub lives_of : ℕ → State → ℕ
lives_of i s = count_by (has_arrival i) s.rows

-- how often the number stands in the list
abbrev pub times : ℕ → List ℕ → ℕ
times i arrivals = count_by (λ n. n == i) arrivals

-- 1 where the number is below the other, else 0
abbrev pub below : ℕ → ℕ → ℕ
below i n = one_if (nat_lt i n)

-- ## Numbers below a count

-- below a count that is one more there is one number more
below-more : (i n : ℕ) → one_if (n == i) + below i n ≡ below i (n + 1)
below-more i n = by (n == i) (nat_lt i n) refl refl
  where
    by : (same less : Bool) → (n == i) ≡ same → nat_lt i n ≡ less → one_if same + one_if less ≡ below i (n + 1)
    by true true is is' = absurd (omega (arith, eqb-true n i is, ltb-true i n is'))
    by true false is is' = let e = eqb-true n i is in rw (lt-ltb i (n + 1) (omega (arith, e))) refl
    by false true is is' = let e = ltb-true i n is' in rw (lt-ltb i (n + 1) (omega (arith, e))) refl
    by false false is is' =
        let ne = eqb-false n i is in
        let e = ltb-false i n is' in
        rw (le-ltb i (n + 1) (omega (arith, ne, e))) refl

-- a count that isn't at its greatest is one more
one_more : (n greatest : ℕ) → n < greatest → min (n + 1) greatest ≡ n + 1
one_more n greatest less = omega (arith, less)

-- a count that doesn't reach its greatest was not there before
not_before : (n more end greatest : ℕ) → end ≡ min (n + more) greatest → end < greatest → n < greatest
not_before n more end greatest is less = omega (arith, is, less)

-- ## Rows by their arrival

-- a row that isn't live has none
dead : (i : ℕ) (r : Row) → is_live r ≡ false → has_arrival i r ≡ false
dead i r none = and_left (is_live r) (r.arrival == i) none

-- a live row has its own
alive : (i : ℕ) (r : Row) → is_live r ≡ true → has_arrival i r ≡ (r.arrival == i)
alive i r live = ap (λ (b : Bool). b && r.arrival == i) live

-- as long as it lives
steady : (i : ℕ) → IsSteady (has_arrival i)
steady i r r' live live' same = alive i r' live' ∙ ap (λ (n : ℕ). n == i) same ∙ sym (alive i r live)

-- ## The events

-- Accept adds one, whose arrival is the count
accepts : (i : ℕ) (s : State) (slot : ℕ) → may_accept s slot ≡ true
    → lives_of i (next_accept s slot) ≡ lives_of i s + one_if (s.accepted == i)
accepts i s slot may =
    let (r, at, vacant) = accept-row s slot may in
    comes (has_arrival i) s.rows slot r (taken_row s) (s.accepted == i) at (dead i r (not_live r (is_live r) refl vacant)) refl

-- one arrival in a list stands there once
times-one : (i n : ℕ) → times i (n ∷ []) ≡ one_if (n == i)
times-one i n = count_cons (λ (m : ℕ). m == i) n [] ∙ omega arith

-- Close takes one, whose arrival it tells
closes : (i : ℕ) (s : State) (name : ConnName) (why : Cause) (how : Tail) → may_close s name why how ≡ true
    → times i (closed_arrival s (event.Close name why how)) + lives_of i (next_close s name) ≡ lives_of i s
closes i s name why how may =
    let found = met (λ r. (is_held r.place || is_working r.place) && end_fits s why how r) s.rows name may in
    let r = found.row in
    let live : is_live r ≡ true = (and_parts (is_live r) _ (named_where name (slice_get s.rows name.slot) r found.live).1).0 in
    let told : times i (closed_arrival s (event.Close name why how)) ≡ one_if (r.arrival == i) =
    ap (λ o. times i (arrival_in o)) found.live ∙ times-one i r.arrival in
    let gone = goes (has_arrival i) s.rows name.slot r closed_row (r.arrival == i) found.at (alive i r live)
    (dead i (closed_row r) (closed_row-live r)) in
    omega (arith, told, gone)

-- as many of the arrival were closed or are live after the event as before it, and one more where the count reaches it
abbrev pub IsBalanced : ℕ → State → Event → Type 0
IsBalanced i s e =
    times i (closed_arrival s e) + lives_of i (next s e) + below i s.accepted ≡ lives_of i s + below i (next s e).accepted

-- so it is after an event that neither takes nor closes a connection
balanced_other : (i : ℕ) (s : State) (e : Event) → is_allowed s e ≡ true → is_accept e ≡ false → is_close e ≡ false
    → closed_arrival s e ≡ [] → (next s e).accepted ≡ s.accepted → IsBalanced i s e
balanced_other i s e may none here closes_none same =
    rw (closes_none, same) (omega (arith, others (has_arrival i) (steady i) s e may none here))

-- and after each event that is allowed, while the count isn't at its greatest
steps : (i : ℕ) (s : State) (e : Event) → is_allowed s e ≡ true → s.accepted < greatest_count → IsBalanced i s e
steps i s (event.Accept slot) may few =
    let up : next_count s.accepted ≡ s.accepted + 1 = one_more s.accepted greatest_count few in
    rw up (omega (arith, accepts i s slot may, below-more i s.accepted))
steps i s (event.Park name kind) may few = balanced_other i s (event.Park name kind) may refl refl refl refl
steps i s (event.Hold name) may few = balanced_other i s (event.Hold name) may refl refl refl refl
steps i s (event.Queue name) may few = balanced_other i s (event.Queue name) may refl refl refl refl
steps i s (event.Start name) may few = balanced_other i s (event.Start name) may refl refl refl refl
steps i s (event.Answer name ask) may few = balanced_other i s (event.Answer name ask) may refl refl refl refl
steps i s (event.Linger name why) may few = balanced_other i s (event.Linger name why) may refl refl refl refl
steps i s (event.Close name why how) may few = omega (arith, closes i s name why how may)
steps i s (event.Ready slot) may few = balanced_other i s (event.Ready slot) may refl refl refl refl
steps i s (event.Tick m) may few = balanced_other i s (event.Tick m) may refl refl refl refl
steps i s (event.StartChild k) may few = balanced_other i s (event.StartChild k) may refl refl refl refl
steps i s (event.Command c) may few = balanced_other i s (event.Command c) may refl refl refl (counted_command s c)
steps i s (event.Retire k) may few = balanced_other i s (event.Retire k) may refl refl refl refl

-- ## Runs

-- so it is over a run, while the count isn't at its greatest in the end
balanced : (i : ℕ) (s : State) (history : List Entry) → Run s history → s.accepted ≤ greatest_count
    → (after s history).accepted < greatest_count
    → times i (closed_arrivals s history) + lives_of i (after s history) + below i s.accepted
    ≡ lives_of i s + below i (after s history).accepted
balanced i s [] run few end = omega arith
balanced i s (e ∷ history) run few end =
    let s' = next s e.event in
    let less = not_before s.accepted (count_events is_accept (e ∷ history)) (after s (e ∷ history)).accepted greatest_count
    (counts s (e ∷ history) few) end in
    let few' : s'.accepted ≤ greatest_count =
    rw (counted s e.event few) (min-le_right (s.accepted + cond (is_accept e.event) 1 0) greatest_count) in
    let both = sum_by-append (λ (n : ℕ). cond (n == i) 1 0) (closed_arrival s e.event) (closed_arrivals s' history) in
    omega (arith, both, steps i s e.event run.0 less, balanced i s' history run.2 few' end)

-- from the opening state on, none was closed or is live but what the count reached
opened : (slots children : ℕ) (shape : Shape) (history : List Entry) (i : ℕ) → Run (opening_state slots children shape) history
    → (after (opening_state slots children shape) history).accepted < greatest_count
    → arrival_count (opening_state slots children shape) history i ≡ below i (after (opening_state slots children shape) history).accepted
opened slots children shape history i run end =
    let none : below i 0 ≡ 0 = rw (le-ltb i 0 (omega arith)) refl in
    let first : lives_of i (opening_state slots children shape) ≡ 0 = count_none (has_arrival i) unused_row refl slots in
    omega (arith, none, first, balanced i (opening_state slots children shape) history run (omega arith) end)

-- each arrival below the count was closed once or is live
pub taken_once : (slots children : ℕ) (shape : Shape) (history : List Entry) (i : ℕ) → Run (opening_state slots children shape) history
    → (after (opening_state slots children shape) history).accepted < greatest_count
    → i < (after (opening_state slots children shape) history).accepted
    → arrival_count (opening_state slots children shape) history i ≡ 1
taken_once slots children shape history i run end less =
    opened slots children shape history i run end ∙ rw (lt-ltb i (after (opening_state slots children shape) history).accepted less) refl

-- and no other
pub taken_none : (slots children : ℕ) (shape : Shape) (history : List Entry) (i : ℕ) → Run (opening_state slots children shape) history
    → (after (opening_state slots children shape) history).accepted < greatest_count
    → (after (opening_state slots children shape) history).accepted ≤ i
    → arrival_count (opening_state slots children shape) history i ≡ 0
taken_none slots children shape history i run end more =
    opened slots children shape history i run end ∙ rw (le-ltb i (after (opening_state slots children shape) history).accepted more) refl
