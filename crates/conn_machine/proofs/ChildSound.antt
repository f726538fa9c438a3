-- The events that change no row keep a sound state sound, and the opening state is sound.
use Rattle.std.proofs.Common.{◌≡◌, ◌⊎◌, inl, inr, ◌<◌, ◌≤◌, ◌==◌, ℕ, zero, suc, ◌+◌, ◌*◌, Bool, true, false, not, ◌&&◌, ◌||◌, nat_lt, nat_le, List, [], ◌∷◌, length, count_by, slice_get, slice_set, replicate, Some, refl, sym, ap, ◌∙◌, arith}
use Rattle.std.specs.List.{list_any}
use Rattle.std.specs.Option.{option_map_or}
use Rattle.std.proofs.lemmas.List.{length-map}
use Rattle.std.proofs.lemmas.Bool.{cases_eq, and_parts, and_left, and_right, and_from, or_parts, or_from, not-true, leb-true, eq-eqb}
use Rattle.mpm_base.specs.declared.shape.Shape.{Shape}
use Rattle.conn_machine.specs.declared.row.Place.{Place}
use Rattle.conn_machine.specs.declared.row.Place.TheVariants.{Vacant, Spent, Held, Parked, Queued, Working}
use Rattle.conn_machine.specs.declared.row.Row.{Row}
use Rattle.conn_machine.specs.declared.child.ChildPhase.{ChildPhase}
use Rattle.conn_machine.specs.declared.child.ChildPhase.TheVariants.{Empty, Running, Stopping}
use Rattle.conn_machine.specs.declared.child.Child.{Child}
use Rattle.conn_machine.specs.declared.state.Going.{Going}
use Rattle.conn_machine.specs.declared.state.Going.TheVariants.{Ending, Halted}
use Rattle.conn_machine.specs.declared.event.Commanded.{Commanded}
use Rattle.conn_machine.specs.declared.event.Commanded.TheVariants.{Graceful, Refused, GracefulStop, Stop}
use Rattle.conn_machine.specs.declared.state.State.{State}
use Rattle.conn_machine.specs.Lists.{update}
use Rattle.conn_machine.specs.Rows.{is_unused, is_live, is_live_in, is_lingering, carried_count, is_carried_by, open_count, is_open_in, is_served_in, is_queued, is_working}
use Rattle.conn_machine.specs.Children.{child_at, is_empty, is_running, is_stopping, no_child, stopped_child, all_stopped, started_child, retired_child, running_count}
use Rattle.mpm_base.specs.Shape.{is_in_bounds}
use Rattle.conn_machine.specs.States.{child_of, is_serving, is_halted, is_overdue, unused_row, opening_state}
use Rattle.mpm_base.specs.Moment.{greatest_moment}
use Rattle.conn_machine.specs.Table.{may_tick, next_tick, next_ready, child_passes, may_start_child, next_start_child, may_retire, next_retire, greatest_generation, command_fits, may_command, next_command}
use Rattle.conn_machine.specs.Sound.{IsEmptyChild, IsSound}
use Rattle.conn_machine.proofs.SizeLemmas.{length-update}

-- ---- a list of children after a change

-- the child of a number that passes a test is one of the list
pub passes-child : (test : Child → Bool) (cs : List Child) (k : ℕ) → option_map_or test (slice_get cs k) false ≡ true
    → (k < length cs) × (test (child_at cs k) ≡ true)
passes-child test [] k passes = absurd (cc)
passes-child test (c ∷ cs) zero passes = (omega arith, passes)
passes-child test (c ∷ cs) (suc k) passes =
    let later = passes-child test cs k passes in
    (omega (arith, later.0), later.1)

-- a change of one child changes that one
child_at-changed : (cs : List Child) (k : ℕ) (change : Child → Child) → k < length cs
    → child_at (update cs k change) k ≡ change (child_at cs k)
child_at-changed [] k change within = absurd (omega arith)
child_at-changed (c ∷ cs) zero change within = refl
child_at-changed (c ∷ cs) (suc k) change within = child_at-changed cs k change (omega arith)

-- and no other
child_at-kept : (cs : List Child) (k j : ℕ) (change : Child → Child) → (j ≡ k → ⊥)
    → child_at (update cs k change) j ≡ child_at cs j
child_at-kept [] k j change other = refl
child_at-kept (c ∷ cs) zero zero change other = absurd (other refl)
child_at-kept (c ∷ cs) zero (suc j) change other = refl
child_at-kept (c ∷ cs) (suc k) zero change other = refl
child_at-kept (c ∷ cs) (suc k) (suc j) change other = child_at-kept cs k j change (λ same. other (ap suc same))

-- each child has stopped, a number that no child has among them
child_at-stopped : (cs : List Child) (k : ℕ) → child_at (all_stopped cs) k ≡ stopped_child (child_at cs k)
child_at-stopped [] k = refl
child_at-stopped (c ∷ cs) zero = refl
child_at-stopped (c ∷ cs) (suc k) = child_at-stopped cs k

-- ---- a child with no live row

-- the row of a slot fails a test that no row passes
none_at : (test : Row → Bool) (rows : List Row) (slot : ℕ) (r : Row) → list_any test rows ≡ false
    → slice_get rows slot ≡ Some r → test r ≡ false
none_at test [] slot r none at = absurd (cc)
none_at test (x ∷ rows) zero r none at =
    let same : x ≡ r = cc in
    ap test (sym same) ∙ (or_parts (test x) (list_any test rows) none).0
none_at test (x ∷ rows) (suc slot) r none at =
    none_at test rows slot r (or_parts (test x) (list_any test rows) none).1 at

-- where no row passes a test, none passes a narrower one
count_none : (wide narrow : Row → Bool) (rows : List Row) → ((r : Row) → wide r ≡ false → narrow r ≡ false)
    → list_any wide rows ≡ false → count_by narrow rows ≡ 0
count_none wide narrow [] narrower none = refl
count_none wide narrow (x ∷ rows) narrower none =
    let parts = or_parts (wide x) (list_any wide rows) none in
    let first : narrow x ≡ false = narrower x parts.0 in
    let later : count_by narrow rows ≡ 0 = count_none wide narrow rows narrower parts.1 in
    rw first (omega arith)

-- a row that its workers carry is live
carried_lives : (own : Bool) (place : Place) → (own && not (is_unused place)) ≡ false
    → (own && (is_queued place || is_working place)) ≡ false
carried_lives false place dead = refl
carried_lives true Vacant dead = refl
carried_lives true Spent dead = refl
carried_lives true Held dead = refl
carried_lives true (Parked kind) dead = refl
carried_lives true Queued dead = absurd (cc)
carried_lives true (Working cell phase) dead = absurd (cc)

-- a child with no live row carries none
carried_none : (rows : List Row) (k : ℕ) → list_any (is_live_in k) rows ≡ false → carried_count rows k ≡ 0
carried_none rows k none =
    count_none (is_live_in k) (is_carried_by k) rows (λ r dead. carried_lives (r.child == k) r.place dead) none

-- nor has it an open one
open_none : (rows : List Row) (k : ℕ) → list_any (is_live_in k) rows ≡ false → open_count rows k ≡ 0
open_none rows k none =
    count_none (is_live_in k) (is_open_in k) rows (λ r dead. and_left (is_live_in k r) (not (is_lingering r)) dead) none

-- ---- signals and the moment

-- a sound state stays sound whatever becomes of the signals, and at each moment in range
pub sound-moment : (s : State) (signals' : List Bool) (moment' : ℕ) → IsSound s → moment' ≤ greatest_moment
    → IsSound (record s { signals = signals'; moment = moment' })
sound-moment s signals' moment' sound within = record {
  carried = sound.carried;
  admitted = sound.admitted;
  running = λ k runs. record { generation = (sound.running k runs).generation; serving = (sound.running k runs).serving };
  children = record { gone = sound.children.gone; shapes = sound.children.shapes; newest = sound.children.newest };
  owners = λ slot r at live. record {
    exists = (sound.owners slot r at live).exists;
    there = (sound.owners slot r at live).there;
    generation = (sound.owners slot r at live).generation;
  };
  cells = record { differ = sound.cells.differ; below = sound.cells.below };
  kinds = sound.kinds;
  requests = sound.requests;
  notes = sound.notes;
  numbers = record {
    moment = within;
    deadlines = sound.numbers.deadlines;
    arrivals = λ few. record {
      differ = (sound.numbers.arrivals few).differ;
      below = (sound.numbers.arrivals few).below;
    };
  };
}

-- a signal leaves a sound state sound
pub sound-ready : (s : State) (slot : ℕ) → IsSound s → IsSound (next_ready s slot)
sound-ready s slot sound = sound-moment s (slice_set s.signals slot true) s.moment sound sound.numbers.moment

-- so does the time that passes
pub sound-tick : (s : State) (m : ℕ) → IsSound s → may_tick s m ≡ true → IsSound (next_tick s m)
sound-tick s m sound may =
    let before = and_parts (not (is_halted s.going) && nat_lt s.moment m && nat_le m greatest_moment) (not (list_any (is_overdue s.moment) s.rows)) may in
    let within = and_parts (not (is_halted s.going) && nat_lt s.moment m) (nat_le m greatest_moment) before.0 in
    sound-moment s s.signals m sound (leb-true m greatest_moment within.1)

-- ---- a sound state after a change of its children

-- the child has the numbers and the generation that it had, and is gone only if it was
record IsLike (c c' : Child) : Type 0 where
  shape : c'.shape ≡ c.shape
  generation : c'.generation ≡ c.generation
  empty : is_empty c'.phase ≡ is_empty c.phase

-- what the child that takes the place of that of a number owes
record IsFit (s : State) (newest' : ℕ) (going' : Going) (k : ℕ) (c' : Child) : Type 0 where
  newest : is_running c'.phase ≡ true → c'.generation ≡ newest'
  serving : is_running c'.phase ≡ true → is_serving going' ≡ true
  gone : is_empty c'.phase ≡ true → IsEmptyChild s.rows k c'
  shape : is_empty c'.phase ≡ false → is_in_bounds c'.shape ≡ true
  like : (list_any (is_live_in k) s.rows ≡ false) ⊎ IsLike (child_at s.children k) c'

-- a child that has a live row is like the one before
like_at : (s : State) (c' : Child) (slot : ℕ) (r : Row) → slice_get s.rows slot ≡ Some r → is_live r ≡ true
    → (list_any (is_live_in r.child) s.rows ≡ false) ⊎ IsLike (child_of s r) c' → IsLike (child_of s r) c'
like_at s c' slot r at live (inl none) =
    let dead = none_at (is_live_in r.child) s.rows slot r none at in
    let alive = and_from (r.child == r.child) (is_live r) (eq-eqb r.child r.child refl) live in
    absurd (cc)
like_at s c' slot r at live (inr like) = like

-- its workers carry no more than they may
carries_few : (s : State) (k : ℕ) (c' : Child) → carried_count s.rows k ≤ (child_at s.children k).shape.threads
    → (list_any (is_live_in k) s.rows ≡ false) ⊎ IsLike (child_at s.children k) c' → carried_count s.rows k ≤ c'.shape.threads
carries_few s k c' before (inl none) = omega (arith, carried_none s.rows k none)
carries_few s k c' before (inr like) = rw like.shape before

-- and its open connections are no more than it admits
admits_few : (s : State) (k : ℕ) (c' : Child)
    → 100 * open_count s.rows k
    ≤ 100 * (child_at s.children k).shape.threads + (child_at s.children k).shape.factor * (child_at s.children k).shape.threads + 99
    → (list_any (is_live_in k) s.rows ≡ false) ⊎ IsLike (child_at s.children k) c'
    → 100 * open_count s.rows k ≤ 100 * c'.shape.threads + c'.shape.factor * c'.shape.threads + 99
admits_few s k c' before (inl none) = omega (arith, open_none s.rows k none)
admits_few s k c' before (inr like) = rw like.shape before

-- a sound state stays sound where each child is a fit one for the child that it was
sound-children : (s : State) (children' : List Child) (newest' : ℕ) (shape' : Shape) (going' : Going) → IsSound s
    → length children' ≡ length s.children → is_in_bounds shape' ≡ true
    → ((k : ℕ) → IsFit s newest' going' k (child_at children' k))
    → IsSound (record s { children = children'; newest = newest'; shape = shape'; going = going' })
sound-children s children' newest' shape' going' sound as_many bounds fits =
    let like : (slot : ℕ) (r : Row) → slice_get s.rows slot ≡ Some r → is_live r ≡ true → IsLike (child_of s r) (child_at children' r.child)
    = λ slot r at live. like_at s (child_at children' r.child) slot r at live (fits r.child).like in
    record {
      carried = λ k. carries_few s k (child_at children' k) (sound.carried k) (fits k).like;
      admitted = λ k. admits_few s k (child_at children' k) (sound.admitted k) (fits k).like;
      running = λ k runs. record { generation = (fits k).newest runs; serving = (fits k).serving runs };
      children = record { gone = λ k. (fits k).gone; shapes = λ k. (fits k).shape; newest = bounds };
      owners = λ slot r at live. record {
        exists = rw as_many (sound.owners slot r at live).exists;
        there = (like slot r at live).empty ∙ (sound.owners slot r at live).there;
        generation = (sound.owners slot r at live).generation ∙ sym (like slot r at live).generation;
      };
      cells = record {
        differ = sound.cells.differ;
        below = λ slot r at live. rw (like slot r at live).shape (sound.cells.below slot r at live);
      };
      kinds = sound.kinds;
      requests = sound.requests;
      notes = λ slot r at live. rw (like slot r at live).shape (sound.notes slot r at live);
      numbers = record {
        moment = sound.numbers.moment;
        deadlines = sound.numbers.deadlines;
        arrivals = λ few. record {
          differ = (sound.numbers.arrivals few).differ;
          below = (sound.numbers.arrivals few).below;
        };
      };
    }

-- a child of a sound state is fit to stay, while the newest generation and the going do
fit_kept : (s : State) (k : ℕ) → IsSound s → IsFit s s.newest s.going k (child_at s.children k)
fit_kept s k sound = record {
  newest = λ runs. (sound.running k runs).generation;
  serving = λ runs. (sound.running k runs).serving;
  gone = sound.children.gone k;
  shape = sound.children.shapes k;
  like = inr (record { shape = refl; generation = refl; empty = refl });
}

-- a change of one child keeps a sound state sound, where it makes a fit one
sound-child : (s : State) (k : ℕ) (change : Child → Child) → IsSound s → k < length s.children
    → IsFit s s.newest s.going k (change (child_at s.children k)) → IsSound (record s { children = update s.children k change })
sound-child s k change sound within fit =
    let fits : (j : ℕ) → IsFit s s.newest s.going j (child_at (update s.children k change) j) = λ j. elim (cases_eq j k) [
      | inl same ↦ rw same (rw (child_at-changed s.children k change within) fit)
      | inr other ↦ rw (child_at-kept s.children k j change other) (fit_kept s j sound)
    ] in
    sound-children s (update s.children k change) s.newest s.shape s.going sound (length-update s.children k change) sound.children.newest fits

-- ---- StartChild and Retire

-- a child starts in place of one that is gone
pub sound-start_child : (s : State) (k : ℕ) → IsSound s → may_start_child s k ≡ true → IsSound (next_start_child s k)
sound-start_child s k sound may =
    let room = and_parts (is_serving s.going && child_passes (λ c. is_empty c.phase) s k) (nat_lt (running_count s.children) s.shape.children) may in
    let parts = and_parts (is_serving s.going) (child_passes (λ c. is_empty c.phase) s k) room.0 in
    let empty = passes-child (λ c. is_empty c.phase) s.children k parts.1 in
    sound-child s k (started_child s.newest s.shape) sound empty.0 (record {
      newest = λ runs. refl;
      serving = λ runs. parts.0;
      gone = λ no. absurd (cc);
      shape = λ there. sound.children.newest;
      like = inl (sound.children.gone k empty.1).none_live;
    })

-- a child that has no live row goes
pub sound-retire : (s : State) (k : ℕ) → IsSound s → may_retire s k ≡ true → IsSound (next_retire s k)
sound-retire s k sound may =
    let parts = and_parts (child_passes (λ c. is_stopping c.phase) s k) (not (list_any (is_live_in k) s.rows)) may in
    let stopping = passes-child (λ c. is_stopping c.phase) s.children k parts.0 in
    let none = not-true (list_any (is_live_in k) s.rows) parts.1 in
    sound-child s k retired_child sound stopping.0 (record {
      newest = λ runs. absurd (cc);
      serving = λ runs. absurd (cc);
      gone = λ gone. record { none_live = none; none_works = refl };
      shape = λ no. absurd (cc);
      like = inl none;
    })

-- ---- Command

-- a child that stops is like it was
stopped_like : (c : Child) (phase : ChildPhase) → c.phase ≡ phase → IsLike c (stopped_child c)
stopped_like c Empty is = record { shape = rw is refl; generation = rw is refl; empty = rw is refl }
stopped_like c Running is = record { shape = rw is refl; generation = rw is refl; empty = rw is refl }
stopped_like c Stopping is = record { shape = rw is refl; generation = rw is refl; empty = rw is refl }

-- and doesn't run
stopped_rests : (c : Child) (phase : ChildPhase) → c.phase ≡ phase → is_running (stopped_child c).phase ≡ false
stopped_rests c Empty is = rw is refl
stopped_rests c Running is = rw is refl
stopped_rests c Stopping is = rw is refl

-- a child of a sound state is fit to stop, whatever becomes of the newest generation and of the going
fit_stopped : (s : State) (newest' : ℕ) (going' : Going) (k : ℕ) → IsSound s
    → IsFit s newest' going' k (stopped_child (child_at s.children k))
fit_stopped s newest' going' k sound =
    let c = child_at s.children k in
    let like = stopped_like c c.phase refl in
    let rests = stopped_rests c c.phase refl in
    record {
      newest = λ runs. absurd (cc);
      serving = λ runs. absurd (cc);
      gone = λ empty.
          let before = sound.children.gone k (sym like.empty ∙ empty) in
          record { none_live = before.none_live; none_works = rw like.shape before.none_works };
      shape = λ there. rw like.shape (sound.children.shapes k (sym like.empty ∙ there));
      like = inr like;
    }

-- a sound state stays sound where all children stop
sound-stopped : (s : State) (newest' : ℕ) (shape' : Shape) (going' : Going) → IsSound s → is_in_bounds shape' ≡ true
    → IsSound (record s { children = all_stopped s.children; newest = newest'; shape = shape'; going = going' })
sound-stopped s newest' shape' going' sound bounds =
    sound-children s (all_stopped s.children) newest' shape' going' sound (length-map s.children stopped_child) bounds
    (λ k. rw (child_at-stopped s.children k) (fit_stopped s newest' going' k sound))

-- a command stops the children, or changes nothing
sound-commanded : (s : State) (c : Commanded) → IsSound s → command_fits s c ≡ true → IsSound (next_command s c)
sound-commanded s (Graceful shape) sound fits =
    let bounds = and_parts (is_serving s.going && nat_lt s.newest greatest_generation) (is_in_bounds shape) fits in
    sound-stopped s (s.newest + 1) shape s.going sound bounds.1
sound-commanded s (Refused reason) sound fits = sound
sound-commanded s (GracefulStop until) sound fits = sound-stopped s s.newest s.shape (Ending until) sound sound.children.newest
sound-commanded s (Stop reason) sound fits = sound-stopped s s.newest s.shape (Halted reason) sound sound.children.newest

-- a command that is allowed keeps a sound state sound
pub sound-command : (s : State) (c : Commanded) → IsSound s → may_command s c ≡ true → IsSound (next_command s c)
sound-command s c sound may = sound-commanded s c sound (and_parts (not (is_halted s.going)) (command_fits s c) may).1

-- ---- the opening state

-- each of so many rows is that row
same_row : (n slot : ℕ) (r x : Row) → slice_get (replicate n x) slot ≡ Some r → x ≡ r
same_row zero slot r x at = absurd (cc)
same_row (suc n) zero r x at = cc
same_row (suc n) (suc slot) r x at = same_row n slot r x at

-- no row of an opening state is live
none_open : (n slot : ℕ) (r : Row) → slice_get (replicate n unused_row) slot ≡ Some r → is_live r ≡ true → ⊥
none_open n slot r at live =
    let unused : is_live r ≡ false = ap is_live (sym (same_row n slot r unused_row at)) in
    absurd (cc)

-- nor has one a deadline
unused_deadline : (n slot : ℕ) (r : Row) → slice_get (replicate n unused_row) slot ≡ Some r → r.deadline ≤ greatest_moment
unused_deadline n slot r at =
    let none : r.deadline ≡ 0 = ap (λ (x : Row). x.deadline) (sym (same_row n slot r unused_row at)) in
    omega (arith, none)

-- nor does one pass a test that an unused row fails
any_unused : (test : Row → Bool) (n : ℕ) → test unused_row ≡ false → list_any test (replicate n unused_row) ≡ false
any_unused test zero fails = refl
any_unused test (suc n) fails = or_from (test unused_row) (list_any test (replicate n unused_row)) fails (any_unused test n fails)

-- so no child of an opening state has a live row
live_unused : (k n : ℕ) → list_any (is_live_in k) (replicate n unused_row) ≡ false
live_unused k n = any_unused (is_live_in k) n (and_right (0 == k) false refl)

-- each child of an opening state was never started
child_at-opening : (n k : ℕ) → child_at (replicate n no_child) k ≡ no_child
child_at-opening zero k = refl
child_at-opening (suc n) zero = refl
child_at-opening (suc n) (suc k) = child_at-opening n k

-- the opening state is sound
pub sound-opening : (slots children : ℕ) (shape : Shape) → is_in_bounds shape ≡ true → IsSound (opening_state slots children shape)
sound-opening slots children shape bounds =
    record {
      carried = λ k. omega (arith, carried_none (replicate slots unused_row) k (live_unused k slots));
      admitted = λ k. omega (arith, open_none (replicate slots unused_row) k (live_unused k slots));
      running = λ k runs. let never = ap (λ (c : Child). is_running c.phase) (child_at-opening children k) in absurd (cc);
      children = record {
        gone = λ k empty. record {
          none_live = live_unused k slots;
          none_works = ap (λ (c : Child). c.shape.threads) (child_at-opening children k);
        };
        shapes = λ k there. let never = ap (λ (c : Child). is_empty c.phase) (child_at-opening children k) in absurd (cc);
        newest = bounds;
      };
      owners = λ slot r at live. absurd (none_open slots slot r at live);
      cells = record {
        differ = λ k c. omega (
          arith,
          count_none (is_served_in k c) (is_served_in k c) (replicate slots unused_row) (λ r fails. fails)
              (any_unused (is_served_in k c) slots (and_right (0 == k) false refl)),
        );
        below = λ slot r at live. absurd (none_open slots slot r at live);
      };
      kinds = λ slot r at live. absurd (none_open slots slot r at live);
      requests = λ slot r at live. absurd (none_open slots slot r at live);
      notes = λ slot r at live. absurd (none_open slots slot r at live);
      numbers = record {
        moment = omega arith;
        deadlines = λ slot r at. unused_deadline slots slot r at;
        arrivals = λ few. record {
          differ = λ i j r other at at' live live' same. absurd (none_open slots i r at live);
          below = λ slot r at live. absurd (none_open slots slot r at live);
        };
      };
    }
