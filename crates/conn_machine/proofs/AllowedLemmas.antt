-- What an allowed event says of the row that it is about.
use Rattle.std.proofs.Common.{◌≡◌, ℕ, Bool, true, false, not, ◌&&◌, ◌||◌, List, cond, nat_lt, slice_get, is_some, Option, None, Some, refl}
use Rattle.std.proofs.lemmas.Bool.{and_parts}
use Rattle.std.specs.Option.{option_map_or}
use Rattle.mpm_base.specs.declared.conn.ConnName.{ConnName}
use Rattle.mpm_base.specs.declared.conn.Kind.{Kind}
use Rattle.mpm_base.specs.declared.conn.Cause.{Cause}
use Rattle.mpm_base.specs.declared.conn.Tail.{Tail}
use Rattle.conn_machine.specs.declared.row.Row.{Row}
use Rattle.conn_machine.specs.declared.state.State.{State}
use Rattle.conn_machine.specs.Rows.{is_vacant, is_held, is_parked, is_queued, is_working, is_lingering, is_live_as, row_where, row_passes, lives_and, carried_count}
use Rattle.conn_machine.specs.States.{is_serving, is_halted, is_signalled, child_of, pick_child}
use Rattle.conn_machine.specs.Table.{is_vacant_at, may_accept, may_wait, may_park, may_be_held, may_hold, may_be_queued, may_queue, may_start, may_answer, linger_cause_fits, may_linger, end_fits, may_close}

-- a row that passes a test
abbrev pub Passes : (Row → Bool) → List Row → ℕ → Type 0
Passes test rows slot = (r : Row) × (slice_get rows slot ≡ Some r) × (test r ≡ true)

-- an optional row that passes a test is there
passes_in : (test : Row → Bool) (o : Option Row) → option_map_or test o false ≡ true → (r : Row) × (o ≡ Some r) × (test r ≡ true)
passes_in test None passes = absurd (cc)
passes_in test (Some r) passes = (r, refl, passes)

-- the row of a slot that passes a test
pub passes-row : (test : Row → Bool) (rows : List Row) (slot : ℕ) → row_passes test rows slot ≡ true → Passes test rows slot
passes-row test rows slot passes = passes_in test (slice_get rows slot) passes

-- a row that must be named and passes a test does
lives_if : (test : Row → Bool) (x : Row) (named : Bool) → option_map_or test (cond named (Some x) None) false ≡ true
    → (r : Row) × (Some x ≡ Some r) × (test r ≡ true)
lives_if test x true lives = (x, refl, lives)
lives_if test x false lives = absurd (cc)

-- the same of an optional row
lives_in : (test named : Row → Bool) (o : Option Row) → option_map_or test (row_where named o) false ≡ true
    → (r : Row) × (o ≡ Some r) × (test r ≡ true)
lives_in test named None lives = absurd (cc)
lives_in test named (Some r) lives = lives_if test r (named r) lives

-- the row of a live connection that passes a test
pub lives-row : (test : Row → Bool) (rows : List Row) (name : ConnName) → lives_and test rows name ≡ true
    → Passes test rows name.slot
lives-row test rows name lives = lives_in test (is_live_as name) (slice_get rows name.slot) lives

-- what is denied is false
not_true : (b : Bool) → not b ≡ true → b ≡ false
not_true true is = absurd (cc)
not_true false is = refl

-- the slot of Accept is vacant
pub accept-row : (s : State) (slot : ℕ) → may_accept s slot ≡ true → Passes (λ r. is_vacant r.place) s.rows slot
accept-row s slot may =
    let serves = (and_parts (is_serving s.going && is_vacant_at s slot) (is_some (pick_child s)) may).0 in
    passes-row (λ r. is_vacant r.place) s.rows slot (and_parts (is_serving s.going) (is_vacant_at s slot) serves).1

-- the server hasn't stopped, and the row of Park may wait so
pub park-row : (s : State) (name : ConnName) (kind : Kind) → may_park s name kind ≡ true
    → (is_halted s.going ≡ false) × Passes (may_wait s.moment kind) s.rows name.slot
park-row s name kind may =
    let both = and_parts (not (is_halted s.going)) (lives_and (may_wait s.moment kind) s.rows name) may in
    (not_true (is_halted s.going) both.0, lives-row (may_wait s.moment kind) s.rows name both.1)

-- the row of Hold may be held
pub hold-row : (s : State) (name : ConnName) → may_hold s name ≡ true
    → Passes (may_be_held s (is_signalled s name.slot)) s.rows name.slot
hold-row s name may = lives-row (may_be_held s (is_signalled s name.slot)) s.rows name may

-- something came for the row of Queue, which waits and doesn't linger
pub queue-row : (s : State) (name : ConnName) → may_queue s name ≡ true
    → (is_signalled s name.slot ≡ true) × Passes (λ r. is_parked r.place && not (is_lingering r)) s.rows name.slot
queue-row s name may =
    let both = and_parts (not (is_halted s.going) && is_signalled s name.slot) (lives_and (may_be_queued s) s.rows name) may in
    let (r, at, test) = lives-row (may_be_queued s) s.rows name both.1 in
    let fits =
    (and_parts (is_parked r.place && not (is_lingering r)) (nat_lt (carried_count s.rows r.child) (child_of s r).shape.threads) test).0 in
    ((and_parts (not (is_halted s.going)) (is_signalled s name.slot) both.0).1, (r, at, fits))

-- the row of Start is in the queue of the workers
pub start-row : (s : State) (name : ConnName) → may_start s name ≡ true → Passes (λ r. is_queued r.place) s.rows name.slot
start-row s name may = lives-row (λ r. is_queued r.place) s.rows name may

-- a worker serves the row of Answer
pub answer-row : (s : State) (name : ConnName) → may_answer s name ≡ true → Passes (λ r. is_working r.place) s.rows name.slot
answer-row s name may =
    let lives = (and_parts (not (is_halted s.going)) (lives_and (λ r. is_working r.place && not r.last) s.rows name) may).1 in
    let (r, at, test) = lives-row (λ r. is_working r.place && not r.last) s.rows name lives in
    (r, at, (and_parts (is_working r.place) (not r.last) test).0)

-- the row of Linger doesn't linger, and its cause fits
pub linger-row : (s : State) (name : ConnName) (why : Cause) → may_linger s name why ≡ true
    → Passes (λ r. not (is_lingering r) && linger_cause_fits s why (is_signalled s name.slot) r) s.rows name.slot
linger-row s name why may =
    lives-row (λ r. not (is_lingering r) && linger_cause_fits s why (is_signalled s name.slot) r) s.rows name may

-- the row of Close is with the listener or with a worker
pub close-row : (s : State) (name : ConnName) (why : Cause) (how : Tail) → may_close s name why how ≡ true
    → Passes (λ r. is_held r.place || is_working r.place) s.rows name.slot
close-row s name why how may =
    let (r, at, test) = lives-row (λ r. (is_held r.place || is_working r.place) && end_fits s why how r) s.rows name may in
    (r, at, (and_parts (is_held r.place || is_working r.place) (end_fits s why how r) test).0)
