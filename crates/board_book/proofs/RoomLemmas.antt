-- What a history must still find room for: it is bounded by the rows and children, and an event that can't be refused
-- takes its own entry out of it.
use Rattle.std.proofs.Common.{◌≡◌, ℕ, zero, suc, ◌+◌, ◌*◌, ◌≤◌, Bool, true, false, not, ◌&&◌, ◌||◌, List, [], ◌∷◌, length, Option, None, Some, slice_get, refl, arith}
use Rattle.std.specs.Prelude.{cond, count_by, sum_by, if◌then◌else◌, ◌==◌}
use Rattle.std.specs.Option.{option_map_or}
use Rattle.std.proofs.lemmas.Bool.{and_parts}
use Rattle.std.proofs.lemmas.List.Sums.{sum_by-cons}
use Rattle.mpm_base.specs.declared.conn.ConnName.{ConnName}
use Rattle.mpm_base.specs.declared.conn.Cause.{Cause}
use Rattle.mpm_base.specs.declared.conn.Cause.TheVariants as cause
use Rattle.conn_machine.specs.declared.row.Place.{Place}
use Rattle.conn_machine.specs.declared.row.Place.TheVariants.{Vacant, Spent, Held, Parked, Queued, Working}
use Rattle.conn_machine.specs.declared.row.Row.{Row}
use Rattle.conn_machine.specs.declared.child.ChildPhase.{ChildPhase}
use Rattle.conn_machine.specs.declared.child.ChildPhase.TheVariants.{Running, Stopping}
use Rattle.conn_machine.specs.declared.child.Child.{Child}
use Rattle.conn_machine.specs.declared.event.Commanded.TheVariants.{Graceful, Refused, GracefulStop, Stop}
use Rattle.conn_machine.specs.declared.event.Event.{Event}
use Rattle.conn_machine.specs.declared.event.Event.TheVariants as event
use Rattle.conn_machine.specs.declared.state.State.{State}
use Rattle.conn_machine.specs.Lists.{update}
use Rattle.conn_machine.specs.Rows.{is_live, is_unused, is_held, is_parked, is_queued, is_working, is_lingering, is_live_as, row_where, lives_and}
use Rattle.conn_machine.specs.Children.{is_empty, is_running, is_stopping, stopped_child, all_stopped, retired_child}
use Rattle.conn_machine.specs.States.{is_halted, is_signalled}
use Rattle.conn_machine.specs.Table.{is_allowed, next, may_be_held, held_row, served_row, linger_cause_fits, lingering_row, end_fits, closed_row, greatest_life, taken_row, parked_row, queued_row, answered_row}
use Rattle.board_book.specs.RoomInside.{place_owes, row_owes, child_owes, owed_entries, room_with_event, is_sure}
use Rattle.conn_machine.specs.HistoryLaws.{RowsChangeOneAtATime}

-- ## Sums

-- a change of an item that passes a test changes the sum as it changes that item
sum_by-update : {X : Type 0} (w : X → ℕ) (change : X → X) (test : X → Bool) (less more : ℕ)
    → ((x : X) → test x ≡ true → w (change x) + less ≤ w x + more)
    → (xs : List X) (i : ℕ) → option_map_or test (slice_get xs i) false ≡ true
    → sum_by w (update xs i change) + less ≤ sum_by w xs + more
sum_by-update w change test less more each [] i passes = absurd (cc)
sum_by-update w change test less more each (x ∷ xs) zero passes =
    omega (arith, each x passes, sum_by-cons w (change x) xs, sum_by-cons w x xs)
sum_by-update w change test less more each (x ∷ xs) (suc i) passes =
    omega (arith, sum_by-update w change test less more each xs i passes, sum_by-cons w x (update xs i change), sum_by-cons w x xs)

-- a sum is at most four for each item that passes a test, where each other one adds nothing
sum_by-passing : {X : Type 0} (w : X → ℕ) (test : X → Bool) → ((x : X) → w x ≤ 4 * cond (test x) 1 0) → (xs : List X)
    → sum_by w xs ≤ 4 * count_by test xs
sum_by-passing w test each [] = omega arith
sum_by-passing w test each (x ∷ xs) =
    omega (arith, each x, sum_by-passing w test each xs, sum_by-cons w x xs, sum_by-cons (λ y. cond (test y) 1 0) x xs)

-- a sum is at most so much for each item
sum_by-most : {X : Type 0} (w : X → ℕ) (most : ℕ) → ((x : X) → w x ≤ most) → (xs : List X)
    → sum_by w xs ≤ most * length xs
sum_by-most w most each [] = omega arith
sum_by-most w most each (x ∷ xs) = omega (arith, each x, sum_by-most w most each xs, sum_by-cons w x xs)

-- ## Rows

-- a row that passes a test where it has its name passes the test
passes-if : (test : Row → Bool) (r : Row) (named : Bool)
    → option_map_or test (if named then Some r else None) false ≡ true → test r ≡ true
passes-if test r true passes = passes
passes-if test r false passes = absurd (cc)

-- so does the row of a slot
passes-where : (test : Row → Bool) (name : ConnName) (o : Option Row)
    → option_map_or test (row_where (is_live_as name) o) false ≡ true → option_map_or test o false ≡ true
passes-where test name None passes = passes
passes-where test name (Some r) passes = passes-if test r (is_live_as name r) passes

-- a change of a connection that passes a test changes what the rows owe as it changes that connection's row
rows-change : (change : Row → Row) (test : Row → Bool) (less more : ℕ)
    → ((r : Row) → test r ≡ true → row_owes (change r) + less ≤ row_owes r + more)
    → (rows : List Row) (name : ConnName) → lives_and test rows name ≡ true
    → sum_by row_owes (update rows name.slot change) + less ≤ sum_by row_owes rows + more
rows-change change test less more each rows name lives =
    sum_by-update row_owes change test less more each rows name.slot (passes-where test name (slice_get rows name.slot) lives)

-- the place of a live connection owes at most four entries, and another one none
place-most : (p : Place) (lingers : Bool) → place_owes p lingers ≤ 4 * cond (not (is_unused p)) 1 0
place-most Vacant lingers = omega arith
place-most Spent lingers = omega arith
place-most Held true = omega arith
place-most Held false = omega arith
place-most (Parked kind) true = omega arith
place-most (Parked kind) false = omega arith
place-most Queued lingers = omega arith
place-most (Working cell phase) lingers = omega arith

-- one that waits owes one entry more than one that is held
parked-owes : (p : Place) (lingers : Bool) → is_parked p ≡ true → place_owes p lingers ≡ place_owes Held lingers + 1
parked-owes (Parked kind) true is = refl
parked-owes (Parked kind) false is = refl
parked-owes p lingers is = absurd (cc)

-- one that waits for a worker owes four
queued-owes : (p : Place) (lingers : Bool) → is_queued p ≡ true → place_owes p lingers ≡ 4
queued-owes Queued lingers is = refl
queued-owes p lingers is = absurd (cc)

-- a connection that is held or served owes its closing at least
taken-owes : (p : Place) (lingers : Bool) → (is_held p || is_working p) ≡ true → 1 ≤ place_owes p lingers
taken-owes Held true is = omega arith
taken-owes Held false is = omega arith
taken-owes (Working cell phase) lingers is = omega arith
taken-owes p lingers is = absurd (cc)

-- and one that doesn't linger yet owes its linger too
open-owes : (p : Place) (lingers : Bool) → not lingers ≡ true → (is_held p || is_working p) ≡ true → place_owes p lingers ≡ 3
open-owes p true is taken = absurd (cc)
open-owes Held false is taken = refl
open-owes (Working cell phase) false is taken = refl
open-owes p false is taken = absurd (cc)

-- a connection that is held owes one entry less
hold-owes : (s : State) (signalled : Bool) (r : Row) → may_be_held s signalled r ≡ true
    → row_owes (held_row r) + 1 ≤ row_owes r + 0
hold-owes s signalled r may = omega (arith, parked-owes r.place (is_lingering r) (and_parts _ _ may).0)

-- so does one that a worker begins to serve
start-owes : (s : State) (r : Row) → is_queued r.place ≡ true → row_owes (served_row s r) + 1 ≤ row_owes r + 0
start-owes s r may = omega (arith, queued-owes r.place (is_lingering r) may)

-- and one that is closed
close-owes : (r : Row) (spent : Bool) → (is_held r.place || is_working r.place) ≡ true
    → row_owes (if spent then record r { place = Spent; notes = [] } else record r { life = r.life + 1; place = Vacant; notes = [] }) + 1 ≤ row_owes r + 0
close-owes r true may = omega (arith, taken-owes r.place (is_lingering r) may)
close-owes r false may = omega (arith, taken-owes r.place (is_lingering r) may)

-- what may linger is held or served. At no other place does the test of any cause pass: naming one of them splits the rest
linger-taken : (s : State) (why : Cause) (signalled : Bool) (r : Row) (p : Place)
    → linger_cause_fits s why signalled (record r { place = p }) ≡ true → (is_held p || is_working p) ≡ true
linger-taken s why signalled r Held fits = refl
linger-taken s why signalled r (Working cell phase) fits = refl
linger-taken s cause.ClientDone signalled r p fits = absurd (cc)
linger-taken s why signalled r p fits = absurd (cc)

-- and one that begins to linger
linger-owes : (s : State) (why : Cause) (signalled : Bool) (r : Row)
    → (not (is_lingering r) && linger_cause_fits s why signalled r) ≡ true
    → row_owes (lingering_row s why r) + 1 ≤ row_owes r + 0
linger-owes s why signalled r may =
    let both = and_parts (not (is_lingering r)) (linger_cause_fits s why signalled r) may in
    omega (arith, open-owes r.place (is_lingering r) both.0 (linger-taken s why signalled r r.place both.1))

-- ## Children, and the server

-- a test counts one at most
one-most : (none : Bool) → (if none then 0 else 1) ≤ 1
one-most true = omega arith
one-most false = omega arith

-- a server that isn't halted owes its stop
going-owes : (halted : Bool) → not halted ≡ true → 1 ≤ (if halted then 0 else 1)
going-owes true is = absurd (cc)
going-owes false is = omega arith

-- a child that runs isn't gone
running-is_empty : (phase : ChildPhase) → is_running phase ≡ true → is_empty phase ≡ false
running-is_empty Running is = refl
running-is_empty phase is = absurd (cc)

-- nor is one that stops
stopping-is_empty : (phase : ChildPhase) → is_stopping phase ≡ true → is_empty phase ≡ false
stopping-is_empty Stopping is = refl
stopping-is_empty phase is = absurd (cc)

-- a child that stops owes what it did
stop-owes : (c : Child) (running : Bool) → is_running c.phase ≡ running
    → child_owes (if running then record c { phase = Stopping } else c) ≡ child_owes c
stop-owes c true is = rw (running-is_empty c.phase is) refl
stop-owes c false is = refl

-- so do all children
all_stopped-owes : (children : List Child) → sum_by child_owes (all_stopped children) ≡ sum_by child_owes children
all_stopped-owes [] = refl
all_stopped-owes (c ∷ children) =
    omega (arith, all_stopped-owes children, stop-owes c (is_running c.phase) refl, sum_by-cons child_owes (stopped_child c) (all_stopped children), sum_by-cons child_owes c children)

-- a child that is let go of owes nothing more
retire-owes : (c : Child) → is_stopping c.phase ≡ true → child_owes (retired_child c) + 1 ≤ child_owes c + 0
retire-owes c is = rw (stopping-is_empty c.phase is) (omega arith)

-- ## The state

-- four entries for each live connection, one for each child, and one for the stop
owed-bound : (s : State) → owed_entries s ≤ 4 * count_by is_live s.rows + length s.children + 1
owed-bound s =
    omega (
      arith,
      sum_by-passing row_owes is_live (λ r. place-most r.place (is_lingering r)) s.rows,
      sum_by-most child_owes 1 (λ c. one-most (is_empty c.phase)) s.children,
      one-most (is_halted s.going),
    )

-- an event leaves at most one connection more
live-next : RowsChangeOneAtATime → (s : State) (e : Event) → count_by is_live (next s e).rows ≤ count_by is_live s.rows + 1
live-next law s (event.Accept slot) = law.more is_live s.rows slot (taken_row s)
live-next law s (event.Park name kind) = law.more is_live s.rows name.slot (parked_row s kind)
live-next law s (event.Hold name) = law.more is_live s.rows name.slot held_row
live-next law s (event.Queue name) = law.more is_live s.rows name.slot queued_row
live-next law s (event.Start name) = law.more is_live s.rows name.slot (served_row s)
live-next law s (event.Answer name ask) = law.more is_live s.rows name.slot (answered_row s name.slot ask)
live-next law s (event.Linger name why) = law.more is_live s.rows name.slot (lingering_row s why)
live-next law s (event.Close name why how) = law.more is_live s.rows name.slot closed_row
live-next law s (event.Ready slot) = omega arith
live-next law s (event.Tick m) = omega arith
live-next law s (event.StartChild k) = omega arith
live-next law s (event.Command (Graceful shape)) = omega arith
live-next law s (event.Command (Refused reason)) = omega arith
live-next law s (event.Command (GracefulStop until)) = omega arith
live-next law s (event.Command (Stop why)) = omega arith
live-next law s (event.Retire k) = omega arith

-- the room that is taken with an event suffices for it and what must follow it
pub room-suffices : RowsChangeOneAtATime → (s : State) (e : Event) → length (next s e).children ≡ length s.children
    → owed_entries (next s e) + 1 ≤ room_with_event s
room-suffices law s e children = omega (arith, owed-bound (next s e), live-next law s e, children)

-- an event that can't be refused takes its own entry out of what is owed
pub owed-sure : (s : State) (e : Event) → is_allowed s e ≡ true → is_sure e ≡ true → owed_entries (next s e) + 1 ≤ owed_entries s
owed-sure s (event.Hold name) may sure =
    let signalled = is_signalled s name.slot in
    omega (arith, rows-change held_row (may_be_held s signalled) 1 0 (hold-owes s signalled) s.rows name may)
owed-sure s (event.Start name) may sure =
    omega (arith, rows-change (served_row s) (λ r. is_queued r.place) 1 0 (start-owes s) s.rows name may)
owed-sure s (event.Linger name why) may sure =
    let signalled = is_signalled s name.slot in
    omega (
      arith,
      rows-change (lingering_row s why) (λ r. not (is_lingering r) && linger_cause_fits s why signalled r) 1 0
          (linger-owes s why signalled) s.rows name may,
    )
owed-sure s (event.Close name why how) may sure =
    omega (
      arith,
      rows-change closed_row (λ r. (is_held r.place || is_working r.place) && end_fits s why how r) 1 0
          (λ r fits. close-owes r (r.life == greatest_life) (and_parts _ _ fits).0) s.rows name may,
    )
owed-sure s (event.Command (Stop why)) may sure =
    omega (arith, going-owes (is_halted s.going) (and_parts _ _ may).0, all_stopped-owes s.children)
owed-sure s (event.Retire k) may sure =
    omega (arith, sum_by-update child_owes retired_child (λ c. is_stopping c.phase) 1 0 retire-owes s.children k (and_parts _ _ may).0)
owed-sure s e may sure = absurd (cc)
