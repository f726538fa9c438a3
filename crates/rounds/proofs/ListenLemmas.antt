-- What the listener's calls leave of the server.
use Rattle.std.proofs.Common.{◌≡◌, ◌==◌, ℕ, zero, suc, ◌+◌, ◌<◌, Bool, true, false, not, ◌&&◌, ◌||◌, cond, List, [], ◌∷◌, length, count_by, nat_lt, nat_le, Option, None, Some, slice_get, unwrap_or, is_some, refl, sym, ap, subst, ◌∙◌, arith}
use Rattle.std.proofs.lemmas.Bool.{and_parts}
use Rattle.std.proofs.lemmas.Bool.Decides.{nat_tests}
use Rattle.std.proofs.lemmas.List.Sums.{sum_by-cons}
use Rattle.std.proofs.lemmas.Option.{unwrap_or-slice_get}
use Rattle.std.specs.Option.{option_map_or}
use Rattle.std.specs.List.{list_any, find, range_with_len}
use Rattle.mpm_base.specs.declared.conn.ConnName.{ConnName}
use Rattle.mpm_base.specs.declared.shape.Shape.{Shape}
use Rattle.conn_machine.specs.declared.child.Child.{Child}
use Rattle.conn_machine.specs.declared.child.ChildPhase.{ChildPhase}
use Rattle.conn_machine.specs.declared.child.ChildPhase.TheVariants.{Empty, Running, Stopping}
use Rattle.conn_machine.specs.declared.row.Place.{Place}
use Rattle.conn_machine.specs.declared.row.Place.TheVariants.{Vacant, Spent, Held, Parked, Queued, Working}
use Rattle.conn_machine.specs.declared.row.Row.{Row}
use Rattle.conn_machine.specs.declared.event.Event.TheVariants as event
use Rattle.conn_machine.specs.declared.state.Going.{Going}
use Rattle.conn_machine.specs.declared.state.Going.TheVariants.{Serving, Ending, Halted}
use Rattle.conn_machine.specs.declared.state.State.{State}
use Rattle.conn_machine.specs.Rows.{is_unused, is_parked, is_live, is_live_in, is_with_a_pass}
use Rattle.conn_machine.specs.Children.{no_child, child_at, is_empty, is_running, is_stopping, running_count, started_child, retired_child}
use Rattle.mpm_base.specs.Shape.{is_in_bounds, is_between}
use Rattle.conn_machine.specs.States.{is_halted, is_serving, is_signalled}
use Rattle.conn_machine.specs.Lists.{update}
use Rattle.conn_machine.specs.Table.{is_allowed, next, child_passes, may_retire, may_be_held}
use Rattle.conn_machine.specs.Sound.{IsSound}
use Rattle.board_book.specs.Finds.{startable, FindsRow, FindsRetirable, is_waiting, is_quiet}
use Rattle.board_book.specs.ClosedDown.{HasNoLive, AllEmpty}
use Rattle.rounds.proofs.PassLemmas.{idle-place}
use Rattle.rounds.proofs.FoundLemmas.{Lives, found-at, found-named, lives, passes-found}

-- ## Counts

-- a count of one more item
pub count-cons : {X : Type 0} (p : X → Bool) (x : X) (xs : List X) → count_by p (x ∷ xs) ≡ cond (p x) 1 0 + count_by p xs
count-cons p x xs = sum_by-cons (λ y. cond (p y) 1 0) x xs

-- one item less passes where the changed one did and doesn't
pub count-less : {X : Type 0} (p : X → Bool) (xs : List X) (i : ℕ) (x : X) (change : X → X) → slice_get xs i ≡ Some x → p x ≡ true
    → p (change x) ≡ false → count_by p (update xs i change) < count_by p xs
count-less p [] i x change at before after = absurd (cc)
count-less p (z ∷ xs) zero x change at before after =
    let same : x ≡ z = cc in
    let before' : p z ≡ true = subst (λ y. p y ≡ true) same before in
    let after' : p (change z) ≡ false = subst (λ y. p (change y) ≡ false) same after in
    rw (count-cons p (change z) xs, count-cons p z xs, before', after') (omega arith)
count-less p (z ∷ xs) (suc i) x change at before after =
    rw (count-cons p z (update xs i change), count-cons p z xs) (omega (arith, count-less p xs i x change at before after))

-- ## Starting children

-- a search that goes on past an item, or stops there
found-by : (p : ℕ → Bool) (ks : List ℕ) (x k : ℕ) (b : Bool) → p x ≡ b → (find p ks ≡ Some k → p k ≡ true)
    → cond b (Some x) (find p ks) ≡ Some k → p k ≡ true
found-by p ks x k true at further found =
    let same : x ≡ k = cc in
    subst (λ (y : ℕ). p y ≡ true) same at
found-by p ks x k false at further found = further found

-- what a search finds passes
found-passes : (p : ℕ → Bool) (ks : List ℕ) (k : ℕ) → find p ks ≡ Some k → p k ≡ true
found-passes p [] k found = absurd (cc)
found-passes p (x ∷ ks) k found = found-by p ks x k (p x) refl (found-passes p ks k) found

-- what a child has to be, so that it may be started
pub record Startable (s : State) (k : ℕ) : Type 0 where
  pub serving : is_serving s.going ≡ true
  pub few : nat_lt (running_count s.children) s.shape.target ≡ true
  pub empty : child_passes (λ c. is_empty c.phase) s k ≡ true

startable-by : (s : State) (k : ℕ) (serving few : Bool) → is_serving s.going ≡ serving → nat_lt (running_count s.children) s.shape.target ≡ few
    → cond (serving && few) (find (child_passes (λ c. is_empty c.phase) s) (range_with_len 0 (length s.children))) None ≡ Some k → Startable s k
startable-by s k true true serves less found =
    record { serving = serves; few = less; empty = found-passes (child_passes (λ c. is_empty c.phase) s) (range_with_len 0 (length s.children)) k found }
startable-by s k true false serves less found = absurd (cc)
startable-by s k false few serves less found = absurd (cc)

pub is-startable : (s : State) (k : ℕ) → startable s ≡ Some k → Startable s k
is-startable s k found = startable-by s k (is_serving s.going) (nat_lt (running_count s.children) s.shape.target) refl refl found

-- fewer children should run than there may be
target-within : (shape : Shape) → is_in_bounds shape ≡ true → nat_le shape.target shape.children ≡ true
target-within shape bounds =
    let target = (and_parts _ (is_between 1 shape.children shape.target) (and_parts _ (nat_le shape.whole_ms 65535000) bounds).0).1 in
    (and_parts (nat_le 1 shape.target) (nat_le shape.target shape.children) target).1

less-within : (n target children : ℕ) → nat_lt n target ≡ true → nat_le target children ≡ true → nat_lt n children ≡ true
less-within n target children less within = grind (arith, nat_tests)

-- the child may be started
pub may-start_child : (s : State) (k : ℕ) → IsSound s → startable s ≡ Some k → is_allowed s (event.StartChild k) ≡ true
may-start_child s k sound found =
    let is = is-startable s k found in
    rw (is.serving, is.empty, less-within (running_count s.children) s.shape.target s.shape.children is.few (target-within s.shape sound.children.newest)) refl

-- the child of the number, which passes the test
pub record ChildAt (test : Child → Bool) (children : List Child) (k : ℕ) : Type 0 where
  pub child : Child
  pub at : slice_get children k ≡ Some child
  pub passes : test child ≡ true

pub child-by : (test : Child → Bool) (children : List Child) (k : ℕ) (o : Option Child) → slice_get children k ≡ o → option_map_or test o false ≡ true
    → ChildAt test children k
child-by test children k None at passes = absurd (cc)
child-by test children k (Some c) at passes = record { child = c; at = at; passes = passes }

-- one child less is gone
pub fewer-gone : (s s' : State) (k : ℕ) → startable s ≡ Some k → s' ≡ next s (event.StartChild k)
    → count_by (λ (c : Child). is_empty c.phase) s'.children < count_by (λ (c : Child). is_empty c.phase) s.children
fewer-gone s s' k found is =
    let child = child-by (λ (c : Child). is_empty c.phase) s.children k (slice_get s.children k) refl (is-startable s k found).empty in
    subst (λ (t : State). count_by (λ (c : Child). is_empty c.phase) t.children < count_by (λ (c : Child). is_empty c.phase) s.children) (sym is)
    (count-less (λ (c : Child). is_empty c.phase) s.children k child.child (started_child s.newest s.shape) child.at child.passes refl)

-- ## Closing what waits

-- the connection that was found waits
pub waits : (s : State) (name : ConnName) → FindsRow is_waiting s (Some name) → Lives (λ (r : Row). is_parked r.place) s.rows name
waits s name found = lives (λ (r : Row). is_parked r.place) s.rows name found

or-true : (b : Bool) → (b || true) ≡ true
or-true true = refl
or-true false = refl

-- a connection that waits is held once the server has stopped
pub may-hold : (s : State) (name : ConnName) → FindsRow is_waiting s (Some name) → is_halted s.going ≡ true → is_allowed s (event.Hold name) ≡ true
may-hold s name found halted =
    let live = waits s name found in
    passes-found (may_be_held s (is_signalled s name.slot)) s.rows name live.row live.found (rw (live.passes, halted) (or-true _))

-- ## Letting go of children

-- the child that was found stops
stopping-child : (s : State) (k : ℕ) → may_retire s k ≡ true → ChildAt (λ (c : Child). is_stopping c.phase) s.children k
stopping-child s k may =
    child-by (λ (c : Child). is_stopping c.phase) s.children k (slice_get s.children k) refl
    (and_parts (child_passes (λ c. is_stopping c.phase) s k) (not (list_any (is_live_in k) s.rows)) may).0

-- one child less stops
pub fewer-stopping : (s s' : State) (k : ℕ) → may_retire s k ≡ true → s' ≡ next s (event.Retire k)
    → count_by (λ (c : Child). is_stopping c.phase) s'.children < count_by (λ (c : Child). is_stopping c.phase) s.children
fewer-stopping s s' k may is =
    let child = stopping-child s k may in
    subst (λ (t : State). count_by (λ (c : Child). is_stopping c.phase) t.children < count_by (λ (c : Child). is_stopping c.phase) s.children) (sym is)
    (count-less (λ (c : Child). is_stopping c.phase) s.children k child.child retired_child child.at child.passes refl)

and-none : (b : Bool) → ((b && false) || false) ≡ false
and-none true = refl
and-none false = refl

-- a row that isn't live is none of a child's
none-cons : (k : ℕ) (r : Row) (rows : List Row) (live : Bool) → is_live r ≡ live → (list_any is_live rows ≡ false → list_any (is_live_in k) rows ≡ false)
    → (live || list_any is_live rows) ≡ false → ((r.child == k && live) || list_any (is_live_in k) rows) ≡ false
none-cons k r rows true is rest none = absurd (cc)
none-cons k r rows false is rest none = rw (rest none) (and-none (r.child == k))

-- no row is one of a live connection of the child where none is live
none-live_in : (k : ℕ) (rows : List Row) → list_any is_live rows ≡ false → list_any (is_live_in k) rows ≡ false
none-live_in k [] none = refl
none-live_in k (r ∷ rows) none = none-cons k r rows (is_live r) refl (none-live_in k rows) none

-- a child that is neither running nor stopping is gone
gone-by : (p : ChildPhase) → is_running p ≡ false → is_stopping p ≡ false → is_empty p ≡ true
gone-by Empty running stopping = refl
gone-by Running running stopping = absurd (cc)
gone-by Stopping running stopping = absurd (cc)

-- a server that has stopped takes no connections
halted-serving : (g : Going) → is_halted g ≡ true → is_serving g ≡ true → ⊥
halted-serving Serving halted serving = absurd (cc)
halted-serving (Ending until) halted serving = absurd (cc)
halted-serving (Halted why) halted serving = absurd (cc)

-- no child runs once the server has stopped
none-running : (s : State) (k : ℕ) (b : Bool) → IsSound s → is_halted s.going ≡ true → is_running (child_at s.children k).phase ≡ b → b ≡ false
none-running s k true sound halted running = absurd (halted-serving s.going halted (sound.running k running).serving)
none-running s k false sound halted running = refl

-- a child that isn't one of the list was never started
child-stopping : (children : List Child) (k : ℕ) (o : Option Child) → slice_get children k ≡ o → option_map_or (λ (c : Child). is_stopping c.phase) o false ≡ false
    → is_stopping (child_at children k).phase ≡ false
child-stopping children k None at passes =
    ap (λ (c : Child). is_stopping c.phase) (sym (unwrap_or-slice_get children k no_child) ∙ ap (λ (o : Option Child). unwrap_or o no_child) at)
child-stopping children k (Some c) at passes =
    ap (λ (c : Child). is_stopping c.phase) (sym (unwrap_or-slice_get children k no_child) ∙ ap (λ (o : Option Child). unwrap_or o no_child) at) ∙ passes

-- what stops a child from being let go of is that it doesn't stop
not-retired : (stopping live : Bool) → live ≡ false → (stopping && not live) ≡ false → stopping ≡ false
not-retired true true none may = absurd (cc)
not-retired true false none may = absurd (cc)
not-retired false live none may = refl

-- each child is gone where none may be let go of
pub all-gone : (s : State) → IsSound s → is_halted s.going ≡ true → FindsRetirable s None → HasNoLive s → AllEmpty s
all-gone s sound halted found live k =
    let passes = not-retired (child_passes (λ c. is_stopping c.phase) s k) (list_any (is_live_in k) s.rows) (none-live_in k s.rows live) (found k) in
    gone-by (child_at s.children k).phase (none-running s k (is_running (child_at s.children k).phase) sound halted refl)
    (child-stopping s.children k (slice_get s.children k) refl passes)

-- ## Nothing more can come

or-parts : (a b : Bool) → (a || b) ≡ false → (a ≡ false) × (b ≡ false)
or-parts false false none = (refl, refl)
or-parts false true none = absurd (cc)
or-parts true b none = absurd (cc)

-- no row is live where none is in hand and none waits
idle-rows : (rows : List Row) → list_any (λ r. is_with_a_pass r.place) rows ≡ false → ((slot : ℕ) (r : Row) → slice_get rows slot ≡ Some r → is_parked r.place ≡ false)
    → list_any is_live rows ≡ false
idle-rows [] quiet none = refl
idle-rows (r ∷ rows) quiet none =
    let parts = or-parts (is_with_a_pass r.place) (list_any (λ (x : Row). is_with_a_pass x.place) rows) quiet in
    rw (idle-place r.place parts.0 (none 0 r refl), idle-rows rows parts.1 (λ slot x at. none (suc slot) x at)) refl

not-true : (b : Bool) → not b ≡ true → b ≡ false
not-true true at = absurd (cc)
not-true false at = refl

-- and where the board is quiet and no connection waits
none-live : (s : State) → is_quiet s ≡ true → FindsRow is_waiting s None → HasNoLive s
none-live s quiet none = idle-rows s.rows (not-true (list_any (λ (r : Row). is_with_a_pass r.place) s.rows) quiet) none

-- ## A connection is live

-- a row that is in hand is live
live-in_hand : (p : Place) → is_with_a_pass p ≡ true → not (is_unused p) ≡ true
live-in_hand Vacant hand = absurd (cc)
live-in_hand Spent hand = absurd (cc)
live-in_hand Held hand = refl
live-in_hand (Parked kind) hand = absurd (cc)
live-in_hand Queued hand = refl
live-in_hand (Working cell phase) hand = refl

busy-cons : (r : Row) (rows : List Row) (hand : Bool) → is_with_a_pass r.place ≡ hand → (hand || list_any (λ r. is_with_a_pass r.place) rows) ≡ true
    → (list_any (λ r. is_with_a_pass r.place) rows ≡ true → list_any is_live rows ≡ true) → list_any is_live (r ∷ rows) ≡ true
busy-cons r rows true is any rest = rw (live-in_hand r.place is) refl
busy-cons r rows false is any rest = rw (rest any) (or-true (is_live r))

-- some row is live where one is in hand
busy-rows : (rows : List Row) → list_any (λ r. is_with_a_pass r.place) rows ≡ true → list_any is_live rows ≡ true
busy-rows [] any = absurd (cc)
busy-rows (r ∷ rows) any = busy-cons r rows (is_with_a_pass r.place) refl any (busy-rows rows)

not-false : (b : Bool) → not b ≡ false → b ≡ true
not-false true at = refl
not-false false at = absurd (cc)

-- so it is where the board isn't quiet
pub busy-live : (s : State) (quiet : Bool) → quiet ≡ is_quiet s → quiet ≡ false → not quiet ≡ list_any is_live s.rows
busy-live s quiet is busy = ap not busy ∙ sym (busy-rows s.rows (not-false (list_any (λ (r : Row). is_with_a_pass r.place) s.rows) (sym is ∙ busy)))

-- some row is live where that of a slot is
live-at : (rows : List Row) (slot : ℕ) (r : Row) → slice_get rows slot ≡ Some r → is_live r ≡ true → list_any is_live rows ≡ true
live-at [] slot r at live = absurd (cc)
live-at (x ∷ rows) zero r at live =
    let same : r ≡ x = cc in
    rw (subst (λ (y : Row). is_live y ≡ true) same live) refl
live-at (x ∷ rows) (suc slot) r at live = rw (live-at rows slot r at live) (or-true (is_live x))

-- where the board is quiet one is live exactly where one was found that waits
pub found-live : (s : State) (o : Option ConnName) (quiet found : Bool) → quiet ≡ is_quiet s → quiet ≡ true → FindsRow is_waiting s o
    → found ≡ is_some o → found ≡ list_any is_live s.rows
found-live s None quiet found at rest finds is = is ∙ sym (none-live s (sym at ∙ rest) finds)
found-live s (Some name) quiet found at rest finds is =
    let live = waits s name finds in
    is
    ∙ sym (live-at s.rows name.slot live.row (found-at s.rows name live.row live.found) (found-named s.rows name live.row live.found).0)
