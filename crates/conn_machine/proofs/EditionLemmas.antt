-- Editions: those that begin in a history, and those that stay in use.
use Rattle.std.proofs.Common.{◌≡◌, ◌<◌, ◌≤◌, ◌==◌, ◌⊎◌, inl, inr, ℕ, zero, suc, ◌+◌, Bool, true, false, cond, List, [], ◌∷◌, ◌++◌, length, map, filter, Some, slice_get, refl, sym, ap, subst, ◌∙◌, add-zero, append_assoc, ne_eqb, arith}
use Rattle.std.specs.List.{AllByRecursion, enumerate_from, list_any}
use Rattle.std.proofs.lemmas.Bool.{both_ways, cases_lt, eqb-false, eqb-true, false_from_ne_true, or_from, or_parts}
use Rattle.std.proofs.lemmas.List.{map-append}
use Rattle.std.proofs.lemmas.List.Elements.{filter-append}
use Rattle.std.proofs.lemmas.List.Sums.{length-filter}
use Rattle.conn_machine.specs.declared.child.Child.{Child}
use Rattle.conn_machine.specs.declared.child.ChildPhase.{ChildPhase}
use Rattle.conn_machine.specs.declared.child.ChildPhase.TheVariants.{Empty, Running, Stopping}
use Rattle.conn_machine.specs.declared.event.Commanded.{Commanded}
use Rattle.conn_machine.specs.declared.event.Commanded.TheVariants.{Graceful, Refused, GracefulStop, Stop}
use Rattle.conn_machine.specs.declared.event.Entry.{Entry}
use Rattle.conn_machine.specs.declared.event.Event.{Event}
use Rattle.conn_machine.specs.declared.event.Event.TheVariants as event
use Rattle.conn_machine.specs.declared.folded.Edition.{Edition}
use Rattle.conn_machine.specs.declared.folded.Folded.{Folded}
use Rattle.conn_machine.specs.declared.state.State.{State}
use Rattle.conn_machine.specs.Children.{retired_child, started_child, stopped_child}
use Rattle.conn_machine.specs.Events.{begins_generation, count_events, is_order, is_refused_entry}
use Rattle.conn_machine.specs.Folds.{HaveBegun, begun_editions, first_edition, fold_of, is_child_of, is_in_use, opening_record, orders_from}
use Rattle.conn_machine.specs.Lists.{update}
use Rattle.conn_machine.specs.Runs.{after}
use Rattle.conn_machine.specs.Table.{next, next_command}
use Rattle.conn_machine.proofs.CountLemmas.{one_if}
use Rattle.conn_machine.proofs.RunLemmas.{after-append}
use Rattle.conn_machine.proofs.UpdateLemmas.{count_cons}

-- ## Lists

-- what holds of the item at each place holds of each item
each_of : {X : Type 0} (P : X → Type 0) (xs : List X) → ((place : ℕ) (x : X) → slice_get xs place ≡ Some x → P x) → AllByRecursion P xs
each_of P [] there = tt
each_of P (x ∷ xs) there = (there 0 x refl, each_of P xs (λ place. there (suc place)))

-- and the other way round
there_of : {X : Type 0} (P : X → Type 0) (xs : List X) → AllByRecursion P xs → (place : ℕ) (x : X) → slice_get xs place ≡ Some x → P x
there_of P [] each place x is = absurd (cc)
there_of P (y ∷ xs) each zero x is = let e : y ≡ x = cc in subst P e each.0
there_of P (y ∷ xs) each (suc place) x is = there_of P xs each.1 place x is

-- of both lists, of those that pass a test, and where what holds is weaker
each_append : {X : Type 0} (P : X → Type 0) (xs ys : List X) → AllByRecursion P xs → AllByRecursion P ys → AllByRecursion P (xs ++ ys)
each_append P [] ys first second = second
each_append P (x ∷ xs) ys first second = (first.0, each_append P xs ys first.1 second)

each_filter : {X : Type 0} (P : X → Type 0) (test : X → Bool) (xs : List X) → AllByRecursion P xs → AllByRecursion P (filter test xs)
each_filter P test [] each = tt
each_filter P test (x ∷ xs) each = by (test x) (each_filter P test xs each.1)
  where
    by : (passes : Bool) → AllByRecursion P (filter test xs) → AllByRecursion P (cond passes (x ∷ filter test xs) (filter test xs))
    by true rest = (each.0, rest)
    by false rest = rest

each_weaker : {X : Type 0} (P Q : X → Type 0) → ((x : X) → P x → Q x) → (xs : List X) → AllByRecursion P xs → AllByRecursion Q xs
each_weaker P Q weaker [] each = tt
each_weaker P Q weaker (x ∷ xs) each = (weaker x each.0, each_weaker P Q weaker xs each.1)

-- a test that drops only what a later test drops too changes nothing
filter_twice : {X : Type 0} (first second : X → Bool) (xs : List X) → AllByRecursion (λ x. first x ≡ false → second x ≡ false) xs
    → filter second (filter first xs) ≡ filter second xs
filter_twice first second [] drops = refl
filter_twice first second (x ∷ xs) drops = by (first x) refl (filter_twice first second xs drops.1)
  where
    by : (passes : Bool) → first x ≡ passes → filter second (filter first xs) ≡ filter second xs
        → filter second (filter first (x ∷ xs)) ≡ filter second (x ∷ xs)
    by true is rest = rw is (ap (λ l. cond (second x) (x ∷ l) l) rest)
    by false is rest = rw (is, drops.0 is) rest

-- a list with its places, of two lists
enumerate-append : {X : Type 0} (n : ℕ) (xs ys : List X) → enumerate_from n (xs ++ ys) ≡ enumerate_from n xs ++ enumerate_from (n + length xs) ys
enumerate-append n [] ys = ap (λ m. enumerate_from m ys) (sym (add-zero n))
enumerate-append n (x ∷ xs) ys =
    let e : n + 1 + length xs ≡ n + length (x ∷ xs) = omega arith in
    ap (λ l. (n, x) ∷ l) (enumerate-append (n + 1) xs ys ∙ ap (λ m. enumerate_from (n + 1) xs ++ enumerate_from m ys) e)

-- ## Generations that begin

-- a command `graceful` alone raises the newest generation
newest_command : (s : State) (c : Commanded) → (next_command s c).newest ≡ s.newest + one_if (begins_generation (event.Command c))
newest_command s (Graceful shape) = refl
newest_command s (Refused reason) = omega arith
newest_command s (GracefulStop until) = omega arith
newest_command s (Stop why) = omega arith

pub newest_next : (s : State) (e : Event) → (next s e).newest ≡ s.newest + one_if (begins_generation e)
newest_next s (event.Accept slot) = omega arith
newest_next s (event.Park name kind) = omega arith
newest_next s (event.Hold name) = omega arith
newest_next s (event.Queue name) = omega arith
newest_next s (event.Start name) = omega arith
newest_next s (event.Answer name ask) = omega arith
newest_next s (event.Linger name why) = omega arith
newest_next s (event.Close name why how) = omega arith
newest_next s (event.Ready slot) = omega arith
newest_next s (event.Tick m) = omega arith
newest_next s (event.StartChild k) = omega arith
newest_next s (event.Command c) = newest_command s c
newest_next s (event.Retire k) = omega arith

-- so the newest generation counts those that began
pub newest_after : (s : State) (history : List Entry) → (after s history).newest ≡ s.newest + count_events begins_generation history
newest_after s [] = omega arith
newest_after s (e ∷ history) =
    let rest = newest_after (next s e.event) history in
    let one = newest_next s e.event in
    let counted = count_cons (λ (x : Entry). begins_generation x.event) e history in
    omega (arith, rest, one, counted)

-- each is begun by an order
pub begun_orders : (n : ℕ) (history : List Entry)
    → length (filter (λ p. begins_generation p.1.event) (orders_from n history)) ≡ count_events begins_generation history
begun_orders n [] = refl
begun_orders n (e ∷ history) =
    by (begins_generation e.event) (is_refused_entry e.event) refl refl (begun_orders (n + 1) history) (begun_orders n history)
  where
    counted : count_events begins_generation (e ∷ history) ≡ one_if (begins_generation e.event) + count_events begins_generation history
    counted = count_cons (λ (x : Entry). begins_generation x.event) e history

    by : (begins refused : Bool) → begins_generation e.event ≡ begins → is_refused_entry e.event ≡ refused
        → length (filter (λ p. begins_generation p.1.event) (orders_from (n + 1) history)) ≡ count_events begins_generation history
        → length (filter (λ p. begins_generation p.1.event) (orders_from n history)) ≡ count_events begins_generation history
        → length (filter (λ p. begins_generation p.1.event) (orders_from n (e ∷ history))) ≡ count_events begins_generation (e ∷ history)
    by true refused is also later same = rw (counted, is, is) (omega (arith, later))
    by false true is also later same = rw (counted, is, also, is) (omega (arith, later))
    by false false is also later same = rw (counted, is, also) (omega (arith, same))

-- the orders of two histories
orders-append : (number : ℕ) (a b : List Entry)
    → orders_from number (a ++ b) ≡ orders_from number a ++ orders_from (number + count_events is_order a) b
orders-append number a b =
    let ordered : Entry → Bool = λ e. is_order e.event in
    ap (enumerate_from number) (filter-append ordered a b)
    ∙ enumerate-append number (filter ordered a) (filter ordered b)
    ∙ ap (λ n. orders_from number a ++ orders_from (number + n) b) (length-filter ordered a)

-- the edition of a generation and its order, both with their numbers
abbrev pub edition_of : ℕ × (ℕ × Entry) → Edition
edition_of p = record { generation = p.0; edition = p.1.0 }

-- the order began a generation
abbrev pub is_begun_by : ℕ × Entry → Bool
is_begun_by p = begins_generation p.1.event

-- the editions that begin in two histories are those of the first, and those that begin in the second behind it
pub begun-append : (newest orders : ℕ) (a b : List Entry) → begun_editions newest orders (a ++ b)
    ≡ begun_editions newest orders a ++ begun_editions (newest + count_events begins_generation a) (orders + count_events is_order a) b
begun-append newest orders a b =
    let first : List (ℕ × Entry) = filter is_begun_by (orders_from (orders + 1) a) in
    let rest : List (ℕ × Entry) = filter is_begun_by (orders_from (orders + count_events is_order a + 1) b) in
    let o : orders + 1 + count_events is_order a ≡ orders + count_events is_order a + 1 = omega arith in
    let n : newest + 1 + length first ≡ newest + count_events begins_generation a + 1 = omega (arith, begun_orders (orders + 1) a) in
    let split : filter is_begun_by (orders_from (orders + 1) (a ++ b)) ≡ first ++ rest =
    ap (filter is_begun_by) (orders-append (orders + 1) a b)
    ∙ filter-append is_begun_by (orders_from (orders + 1) a) (orders_from (orders + 1 + count_events is_order a) b)
    ∙ ap (λ m. first ++ filter is_begun_by (orders_from m b)) o in
    ap (λ l. map edition_of (enumerate_from (newest + 1) l)) split
    ∙ ap (map edition_of) (enumerate-append (newest + 1) first rest)
    ∙ map-append edition_of (enumerate_from (newest + 1) first) (enumerate_from (newest + 1 + length first) rest)
    ∙ ap (λ m. map edition_of (enumerate_from (newest + 1) first) ++ map edition_of (enumerate_from m rest)) n

-- the generation of the edition is at most this one
abbrev IsUpTo : ℕ → Edition → Type 0
IsUpTo top e = e.generation ≤ top

numbered_up : (n top : ℕ) (xs : List (ℕ × Entry)) → n + length xs ≤ top + 1
    → AllByRecursion (IsUpTo top) (map edition_of (enumerate_from n xs))
numbered_up n top [] below = tt
numbered_up n top (x ∷ xs) below = (omega (arith, below), numbered_up (n + 1) top xs (omega (arith, below)))

-- those of the record and those that begin in the history are of generations that have begun behind it
editions_up : (base : State) (f : Folded) (history : List Entry) → HaveBegun base f
    → AllByRecursion (IsUpTo (after base history).newest) (f.editions ++ begun_editions base.newest f.orders history)
editions_up base f history begun =
    let newest = newest_after base history in
    each_append (IsUpTo (after base history).newest) f.editions (begun_editions base.newest f.orders history)
    (each_weaker (IsUpTo base.newest) (IsUpTo (after base history).newest) (λ e up. omega (arith, up, newest)) f.editions
    (each_of (IsUpTo base.newest) f.editions begun))
    (numbered_up (base.newest + 1) (after base history).newest (filter is_begun_by (orders_from (f.orders + 1) history))
    (omega (arith, newest, begun_orders (f.orders + 1) history)))

-- so each edition of the record that a fold makes is
pub begun_after : (base : State) (f : Folded) (history : List Entry) (ended : List (List ℕ)) → HaveBegun base f
    → HaveBegun (after base history) (fold_of base history ended f)
begun_after base f history ended begun =
    let top = (after base history).newest in
    let used : Edition → Bool = λ e. is_in_use (after base history) e.generation in
    there_of (IsUpTo top) (filter used (f.editions ++ begun_editions base.newest f.orders history))
    (each_filter (IsUpTo top) used (f.editions ++ begun_editions base.newest f.orders history) (editions_up base f history begun))

-- ## Generations in use

-- where no item passes, none does after a change to items that don't pass
none_changed : {X : Type 0} (p : X → Bool) (change : X → X) → ((x : X) → p x ≡ false → p (change x) ≡ false) → (xs : List X) (i : ℕ)
    → list_any p xs ≡ false → list_any p (update xs i change) ≡ false
none_changed p change fails [] i none = refl
none_changed p change fails (x ∷ xs) zero none =
    let both = or_parts (p x) (list_any p xs) none in
    or_from (p (change x)) (list_any p xs) (fails x both.0) both.1
none_changed p change fails (x ∷ xs) (suc i) none =
    let both = or_parts (p x) (list_any p xs) none in
    or_from (p x) (list_any p (update xs i change)) both.0 (none_changed p change fails xs i both.1)

none_mapped : {X : Type 0} (p : X → Bool) (change : X → X) → ((x : X) → p x ≡ false → p (change x) ≡ false) → (xs : List X)
    → list_any p xs ≡ false → list_any p (map change xs) ≡ false
none_mapped p change fails [] none = refl
none_mapped p change fails (x ∷ xs) none =
    let both = or_parts (p x) (list_any p xs) none in
    or_from (p (change x)) (list_any p (map change xs)) (fails x both.0) (none_mapped p change fails xs both.1)

-- a child that is stopped stays of its generation
stopped_of : (generation : ℕ) (c : Child) → is_child_of generation c ≡ false → is_child_of generation (stopped_child c) ≡ false
stopped_of generation c none = by c.phase refl
  where
    by : (phase : ChildPhase) → c.phase ≡ phase → is_child_of generation (stopped_child c) ≡ false
    by Empty is = rw is refl
    by Running is = rw is (rw is at none)
    by Stopping is = rw is (rw is at none)

-- a generation that isn't in use before an event, and is not the newest behind it, is not in use there
unused_command : (s : State) (c : Commanded) (generation : ℕ) → (generation == (next_command s c).newest) ≡ false
    → is_in_use s generation ≡ false → is_in_use (next_command s c) generation ≡ false
unused_command s c generation older unused = by c older
  where
    both : ((generation == s.newest) ≡ false) × (list_any (is_child_of generation) s.children ≡ false)
    both = or_parts (generation == s.newest) (list_any (is_child_of generation) s.children) unused

    stopped : list_any (is_child_of generation) (map stopped_child s.children) ≡ false
    stopped = none_mapped (is_child_of generation) stopped_child (stopped_of generation) s.children both.1

    by : (d : Commanded) → (generation == (next_command s d).newest) ≡ false → is_in_use (next_command s d) generation ≡ false
    by (Graceful shape) other = or_from (generation == s.newest + 1) (list_any (is_child_of generation) (map stopped_child s.children)) other stopped
    by (Refused reason) other = unused
    by (GracefulStop until) other = or_from (generation == s.newest) (list_any (is_child_of generation) (map stopped_child s.children)) other stopped
    by (Stop why) other = or_from (generation == s.newest) (list_any (is_child_of generation) (map stopped_child s.children)) other stopped

unused_next : (s : State) (e : Event) (generation : ℕ) → (generation == (next s e).newest) ≡ false → is_in_use s generation ≡ false
    → is_in_use (next s e) generation ≡ false
unused_next s e generation older unused = by e older
  where
    both : ((generation == s.newest) ≡ false) × (list_any (is_child_of generation) s.children ≡ false)
    both = or_parts (generation == s.newest) (list_any (is_child_of generation) s.children) unused

    started : (s.newest == generation) ≡ false
    started = ne_eqb s.newest generation (λ same. eqb-false generation s.newest both.0 (sym same))

    by : (d : Event) → (generation == (next s d).newest) ≡ false → is_in_use (next s d) generation ≡ false
    by (event.Accept slot) other = unused
    by (event.Park name kind) other = unused
    by (event.Hold name) other = unused
    by (event.Queue name) other = unused
    by (event.Start name) other = unused
    by (event.Answer name ask) other = unused
    by (event.Linger name why) other = unused
    by (event.Close name why how) other = unused
    by (event.Ready slot) other = unused
    by (event.Tick m) other = unused
    by (event.StartChild k) other =
        or_from (generation == s.newest) (list_any (is_child_of generation) (update s.children k (started_child s.newest s.shape))) other
        (none_changed (is_child_of generation) (started_child s.newest s.shape) (λ c none. started) s.children k both.1)
    by (event.Command c) other = unused_command s c generation other unused
    by (event.Retire k) other =
        or_from (generation == s.newest) (list_any (is_child_of generation) (update s.children k retired_child)) other
        (none_changed (is_child_of generation) retired_child (λ c none. refl) s.children k both.1)

-- a generation that is in use behind an event was so before it, or begins with it
used_next : (s : State) (e : Event) (generation : ℕ) → is_in_use (next s e) generation ≡ true
    → (is_in_use s generation ≡ true) ⊎ ((s.newest < generation) × (generation ≤ (next s e).newest))
used_next s e generation used = by (is_in_use s generation) (generation == (next s e).newest) refl refl (cases_lt s.newest generation)
  where
    by : (before newest : Bool) → is_in_use s generation ≡ before → (generation == (next s e).newest) ≡ newest
        → (s.newest < generation) ⊎ (generation ≤ s.newest)
        → (is_in_use s generation ≡ true) ⊎ ((s.newest < generation) × (generation ≤ (next s e).newest))
    by true newest is new place = inl is
    by false true is new (inl above) = inr (above, omega (arith, eqb-true generation (next s e).newest new))
    by false true is new (inr up) =
        let same : generation ≡ s.newest = omega (arith, up, eqb-true generation (next s e).newest new, newest_next s e) in
        absurd (eqb-false generation s.newest (or_parts (generation == s.newest) (list_any (is_child_of generation) s.children) is).0 same)
    by false false is new place = absurd (both_ways (is_in_use (next s e) generation) (unused_next s e generation new is) used)

-- so one that is in use behind a history was so before it, or began in it
pub used_after : (s : State) (history : List Entry) (generation : ℕ) → is_in_use (after s history) generation ≡ true
    → (is_in_use s generation ≡ true) ⊎ ((s.newest < generation) × (generation ≤ (after s history).newest))
used_after s [] generation used = inl used
used_after s (e ∷ history) generation used = by (used_after (next s e.event) history generation used)
  where
    behind : (is_in_use s generation ≡ true) ⊎ ((s.newest < generation) × (generation ≤ (next s e.event).newest))
        → (is_in_use s generation ≡ true) ⊎ ((s.newest < generation) × (generation ≤ (after (next s e.event) history).newest))
    behind (inl before) = inl before
    behind (inr began) = inr (began.0, omega (arith, began.1, newest_after (next s e.event) history))

    by : (is_in_use (next s e.event) generation ≡ true) ⊎ (((next s e.event).newest < generation) × (generation ≤ (after (next s e.event) history).newest))
        → (is_in_use s generation ≡ true) ⊎ ((s.newest < generation) × (generation ≤ (after (next s e.event) history).newest))
    by (inl first) = behind (used_next s e.event generation first)
    by (inr began) = inr (omega (arith, began.0, newest_next s e.event), began.1)

-- and one that isn't in use, and has begun, is not in use again
unused_after : (s : State) (history : List Entry) (generation : ℕ) → generation ≤ s.newest → is_in_use s generation ≡ false
    → is_in_use (after s history) generation ≡ false
unused_after s history generation up unused =
    false_from_ne_true (is_in_use (after s history) generation) (λ used. none (used_after s history generation used))
  where
    none : (is_in_use s generation ≡ true) ⊎ ((s.newest < generation) × (generation ≤ (after s history).newest)) → ⊥
    none (inl before) = both_ways (is_in_use s generation) unused before
    none (inr began) = absurd (omega (arith, began.0, up))

-- ## Two folds

-- the editions that a second fold leaves of those that the first one left are those that one fold leaves
pub editions_twice : (base : State) (f : Folded) (a b : List Entry) (ended ended' : List (List ℕ)) → HaveBegun base f
    → (fold_of (after base a) b ended' (fold_of base a ended f)).editions ≡ (fold_of base (a ++ b) (ended ++ ended') f).editions
editions_twice base f a b ended ended' begun =
    let middle : State = after base a in
    let used : State → Edition → Bool = λ s e. is_in_use s e.generation in
    let first : List Edition = f.editions ++ begun_editions base.newest f.orders a in
    let orders : ℕ = f.orders + count_events is_order a in
    let rest : List Edition = begun_editions middle.newest orders b in
    let last : State = after middle b in
    let dropped : filter (used last) (filter (used middle) first) ≡ filter (used last) first =
    filter_twice (used middle) (used last) first
    (each_weaker (IsUpTo middle.newest) (λ e. used middle e ≡ false → used last e ≡ false) (λ e up unused. unused_after middle b e.generation up unused)
    first (editions_up base f a begun)) in
    let joined : first ++ rest ≡ f.editions ++ begun_editions base.newest f.orders (a ++ b) =
    append_assoc f.editions (begun_editions base.newest f.orders a) rest
    ∙ ap (λ n. f.editions ++ (begun_editions base.newest f.orders a ++ begun_editions n orders b)) (newest_after base a)
    ∙ ap (λ l. f.editions ++ l) (sym (begun-append base.newest f.orders a b)) in
    filter-append (used last) (filter (used middle) first) rest
    ∙ ap (λ l. l ++ filter (used last) rest) dropped
    ∙ sym (filter-append (used last) first rest)
    ∙ ap (filter (used last)) joined
    ∙ ap (λ s. filter (used s) (f.editions ++ begun_editions base.newest f.orders (a ++ b))) (sym (after-append base a b))

-- the first generation has begun in every state
pub begun_first : (s : State) (passes : ℕ) → HaveBegun s (opening_record passes)
begun_first s passes zero e is =
    let first : first_edition ≡ e = cc in
    subst (λ (x : Edition). x.generation ≤ s.newest) first (omega arith)
begun_first s passes (suc place) e is = absurd (cc)
