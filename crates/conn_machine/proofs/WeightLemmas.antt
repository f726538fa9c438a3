-- The weight of a table: a number for each row and its signal, added up. A row that has no signal has one that isn't set.
use Rattle.std.proofs.Common.{◌≡◌, ◌≤◌, ℕ, zero, suc, ◌+◌, Bool, true, false, List, [], ◌∷◌, cond, replicate, slice_get, slice_index_or, slice_set, Some, refl, arith}
use Rattle.std.proofs.lemmas.List.Sums.{sum_by-cons}
use Rattle.conn_machine.specs.declared.row.Row.{Row}
use Rattle.conn_machine.specs.declared.event.Event.{Event}
use Rattle.conn_machine.specs.declared.event.Entry.{Entry}
use Rattle.conn_machine.specs.Events.{count_events}
use Rattle.conn_machine.specs.Lists.{update}

-- the sum, by recursion on both lists
abbrev pub weight : (Row → Bool → ℕ) → List Row → List Bool → ℕ
weight f [] signals = 0
weight f (r ∷ rows) [] = f r false + weight f rows []
weight f (r ∷ rows) (b ∷ signals) = f r b + weight f rows signals

-- the signal of the slot
abbrev pub signal_at : List Bool → ℕ → Bool
signal_at signals slot = slice_index_or signals slot false

-- a row and its signal change, and so the weight
pub weight-change : (f : Row → Bool → ℕ) (rows : List Row) (signals : List Bool) (slot : ℕ) (r : Row) (change : Row → Row) (b : Bool)
    → slice_get rows slot ≡ Some r
    → weight f (update rows slot change) (slice_set signals slot b) + f r (signal_at signals slot)
    ≡ weight f rows signals + f (change r) (signal_at (slice_set signals slot b) slot)
weight-change f [] signals slot r change b at = absurd (cc)
weight-change f (x ∷ rows) [] zero r change b at =
    let e : x ≡ r = cc in
    rw e (omega arith)
weight-change f (x ∷ rows) [] (suc slot) r change b at = omega (arith, weight-change f rows [] slot r change b at)
weight-change f (x ∷ rows) (y ∷ signals) zero r change b at =
    let e : x ≡ r = cc in
    rw e (omega arith)
weight-change f (x ∷ rows) (y ∷ signals) (suc slot) r change b at = omega (arith, weight-change f rows signals slot r change b at)

-- a row changes, and no signal
pub weight-update : (f : Row → Bool → ℕ) (rows : List Row) (signals : List Bool) (slot : ℕ) (r : Row) (change : Row → Row)
    → slice_get rows slot ≡ Some r
    → weight f (update rows slot change) signals + f r (signal_at signals slot)
    ≡ weight f rows signals + f (change r) (signal_at signals slot)
weight-update f [] signals slot r change at = absurd (cc)
weight-update f (x ∷ rows) [] zero r change at =
    let e : x ≡ r = cc in
    rw e (omega arith)
weight-update f (x ∷ rows) [] (suc slot) r change at = omega (arith, weight-update f rows [] slot r change at)
weight-update f (x ∷ rows) (y ∷ signals) zero r change at =
    let e : x ≡ r = cc in
    rw e (omega arith)
weight-update f (x ∷ rows) (y ∷ signals) (suc slot) r change at = omega (arith, weight-update f rows signals slot r change at)

-- a signal changes
pub weight-signal : (f : Row → Bool → ℕ) → ((r : Row) (b b' : Bool) → f r b ≤ f r b' + 1)
    → (rows : List Row) (signals : List Bool) (slot : ℕ) (b : Bool)
    → weight f rows (slice_set signals slot b) ≤ weight f rows signals + 1
weight-signal f small [] signals slot b = omega arith
weight-signal f small (r ∷ rows) [] slot b = omega arith
weight-signal f small (r ∷ rows) (y ∷ signals) zero b = omega (arith, small r b y)
weight-signal f small (r ∷ rows) (y ∷ signals) (suc slot) b = omega (arith, weight-signal f small rows signals slot b)

-- no row weighs more by the one than by the other
pub weight-mono : (f g : Row → Bool → ℕ) → ((r : Row) (b : Bool) → f r b ≤ g r b)
    → (rows : List Row) (signals : List Bool) → weight f rows signals ≤ weight g rows signals
weight-mono f g less [] signals = omega arith
weight-mono f g less (r ∷ rows) [] = omega (arith, less r false, weight-mono f g less rows [])
weight-mono f g less (r ∷ rows) (y ∷ signals) = omega (arith, less r y, weight-mono f g less rows signals)

-- a table of rows that weigh nothing
pub weight-none : (f : Row → Bool → ℕ) (r : Row) → f r false ≡ 0 → (n m : ℕ) → weight f (replicate n r) (replicate m false) ≡ 0
weight-none f r none zero m = refl
weight-none f r none (suc n) zero = omega (arith, none, weight-none f r none n zero)
weight-none f r none (suc n) (suc m) = omega (arith, none, weight-none f r none n m)

-- a signal that was cleared isn't set
pub signal-cleared : (signals : List Bool) (slot : ℕ) → signal_at (slice_set signals slot false) slot ≡ false
signal-cleared [] slot = refl
signal-cleared (y ∷ signals) zero = refl
signal-cleared (y ∷ signals) (suc slot) = signal-cleared signals slot

-- a signal that is set after it was changed was changed to that
pub signal-set : (signals : List Bool) (slot : ℕ) (b : Bool) → signal_at (slice_set signals slot b) slot ≡ true → b ≡ true
signal-set [] slot b is = absurd (cc)
signal-set (y ∷ signals) zero b is = is
signal-set (y ∷ signals) (suc slot) b is = signal-set signals slot b is

-- ## The events of a history

-- as many of a kind as the rest has, and one more where the first is one
pub count-cons : (test : Event → Bool) (e : Entry) (history : List Entry)
    → count_events test (e ∷ history) ≡ cond (test e.event) 1 0 + count_events test history
count-cons test e history = sum_by-cons (λ (x : Entry). cond (test x.event) 1 0) e history
