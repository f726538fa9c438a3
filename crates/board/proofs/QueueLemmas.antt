-- What the timeout queues have of the rows, while one row changes, and what they answer.
use Rattle.std.proofs.Common.{◌≡◌, ℕ, zero, suc, ◌≤◌, ◌==◌, Bool, true, false, if◌then◌else◌, List, [], ◌∷◌, map, fold, min, nat_le, Option, None, Some, is_some, option_map, option_and_then, IfSome, IsNone, IsSomeAnd, ◌↔◌, slice_get, slice_index_or, refl, sym, ap, subst, ◌∙◌, arith}
use Rattle.std.specs.List.{reduce}
use Rattle.std.specs.Option.{option_map_or}
use Rattle.std.proofs.Math.ListN.{set}
use Rattle.std.proofs.lemmas.Bool.{le-leb}
use Rattle.mpm_base.specs.declared.conn.ConnName.{ConnName}
use Rattle.mpm_base.specs.declared.conn.Kind.{Kind}
use Rattle.conn_machine.specs.declared.row.Place.{Place}
use Rattle.conn_machine.specs.declared.row.Place.TheVariants.{Vacant, Spent, Held, Parked, Queued, Working}
use Rattle.conn_machine.specs.declared.row.Row.{Row}
use Rattle.conn_machine.specs.declared.state.State.{State}
use Rattle.conn_machine.specs.Lists.{update}
use Rattle.conn_machine.specs.Rows.{is_parked, is_live_as, row_where, live_row, lives_and}
use Rattle.conn_machine.specs.States.{is_overdue}
use Rattle.timeout_queues.specs.Waiting.{ParkedName, in_life, parked_of, all_parked, least_deadline, overdue_at, deadline_of, IsFree, IsPastDeadline}
use Rattle.board_book.specs.Finds.{FindsRow, IsFirstDue, is_late, waiting_deadlines}
use Rattle.board.specs.QueuesInside.{waits_at, waits_in, queues_of, waits_under}

-- ## One row changes

-- a list is mapped, once one item was changed
pub map-update : {X Y : Type 0} (f : X → Y) (xs : List X) (i : ℕ) (x : X) (change : X → X) → slice_get xs i ≡ Some x
    → map f (update xs i change) ≡ set (map f xs) i (f (change x))
map-update f [] i x change at = absurd (cc)
map-update {X} f (y ∷ xs) zero x change at =
    let e : y ≡ x = cc in
    ap (λ (z : X). f (change z) ∷ map f xs) e
map-update {X} {Y} f (y ∷ xs) (suc i) x change at = ap (λ (zs : List Y). f y ∷ zs) (map-update f xs i x change at)

-- an item of a list that is mapped
pub get-map : {X Y : Type 0} (f : X → Y) (xs : List X) (i : ℕ) (x : X) → slice_get xs i ≡ Some x → slice_get (map f xs) i ≡ Some (f x)
get-map f [] i x at = absurd (cc)
get-map {X} f (y ∷ xs) zero x at =
    let e : y ≡ x = cc in
    ap (λ (z : X). Some (f z)) e
get-map f (y ∷ xs) (suc i) x at = get-map f xs i x at

-- an item that is put where it stands changes nothing
pub map-same : {X Y : Type 0} (f : X → Y) (xs : List X) (i : ℕ) (x : X) → slice_get xs i ≡ Some x → set (map f xs) i (f x) ≡ map f xs
map-same f [] i x at = absurd (cc)
map-same {X} f (y ∷ xs) zero x at =
    let e : y ≡ x = cc in
    ap (λ (z : X). f z ∷ map f xs) (sym e)
map-same {X} {Y} f (y ∷ xs) (suc i) x at = ap (λ (zs : List Y). f y ∷ zs) (map-same f xs i x at)

-- the queues, once a row was changed
pub queued-set : (queues : List (Option ParkedName)) (rows : List Row) (slot : ℕ) (r : Row) (change : Row → Row) (q : Option ParkedName)
    → queues ≡ queues_of rows → slice_get rows slot ≡ Some r → waits_in (change r) ≡ q → set queues slot q ≡ queues_of (update rows slot change)
queued-set queues rows slot r change q queued at is =
    ap (λ (qs : List (Option ParkedName)). set qs slot q) queued
    ∙ ap (λ (p : Option ParkedName). set (queues_of rows) slot p) (sym is)
    ∙ sym (map-update waits_in rows slot r change at)

-- a row that isn't at home isn't in the queues
pub away-waits : (p : Place) (r : Row) → is_parked p ≡ false → waits_at p r ≡ None
away-waits Vacant r away = refl
away-waits Spent r away = refl
away-waits Held r away = refl
away-waits (Parked kind) r away = absurd (cc)
away-waits Queued r away = refl
away-waits (Working cell phase) r away = refl

-- so nothing stands in the queues at its slot
pub queues-away : (queues : List (Option ParkedName)) (rows : List Row) (slot : ℕ) (r : Row)
    → queues ≡ queues_of rows → slice_get rows slot ≡ Some r → is_parked r.place ≡ false → set queues slot None ≡ queues
queues-away queues rows slot r queued at away =
    ap (λ (qs : List (Option ParkedName)). set qs slot None) queued
    ∙ ap (λ (q : Option ParkedName). set (queues_of rows) slot q) (sym (away-waits r.place r away))
    ∙ map-same waits_in rows slot r at
    ∙ sym queued

-- ## What is parked under a name

-- what stands in the queues at a slot is what waits of its row
waits-slot : (rows : List Row) (slot : ℕ) → slice_index_or (queues_of rows) slot None ≡ option_and_then waits_in (slice_get rows slot)
waits-slot [] slot = refl
waits-slot (r ∷ rows) zero = refl
waits-slot (r ∷ rows) (suc slot) = waits-slot rows slot

-- nothing of a row that doesn't wait is parked
waits-nobody : (r : Row) (test : Bool) → waits_in r ≡ None → option_and_then waits_in (if test then Some r else None) ≡ None
waits-nobody r true none = none
waits-nobody r false none = refl

-- neither under a name
waits-away : (r : Row) (name : ConnName) → waits_in r ≡ None
    → option_and_then (in_life name.life) (waits_in r) ≡ option_and_then waits_in (row_where (is_live_as name) (Some r))
waits-away r name none = ap (option_and_then (in_life name.life)) none ∙ sym (waits-nobody r (is_live_as name r) none)

-- a row that waits is parked in its own life
waits-parked : (r : Row) (kind : Kind) (name : ConnName) (same : Bool) → (r.life == name.life) ≡ same → r.place ≡ Parked kind
    → option_and_then (in_life name.life) (waits_in r) ≡ option_and_then waits_in (row_where (is_live_as name) (Some r))
waits-parked r kind name true same at = rw (at, same) refl
waits-parked r kind name false same at = rw (at, same) refl

-- so what stands in the queues is found under the name of the row alone
waits-in_life : (r : Row) (name : ConnName) (p : Place) → r.place ≡ p
    → option_and_then (in_life name.life) (waits_in r) ≡ option_and_then waits_in (row_where (is_live_as name) (Some r))
waits-in_life r name Vacant at = waits-away r name (rw at refl)
waits-in_life r name Spent at = waits-away r name (rw at refl)
waits-in_life r name Held at = waits-away r name (rw at refl)
waits-in_life r name (Parked kind) at = waits-parked r kind name (r.life == name.life) refl at
waits-in_life r name Queued at = waits-away r name (rw at refl)
waits-in_life r name (Working cell phase) at = waits-away r name (rw at refl)

-- the same of the row of a slot, where there is one
waits-found : (rows : List Row) (name : ConnName) (o : Option Row) → slice_get rows name.slot ≡ o
    → parked_of (queues_of rows) name ≡ waits_under rows name
waits-found rows name None at = rw (waits-slot rows name.slot, at) refl
waits-found rows name (Some r) at = rw (waits-slot rows name.slot, at) (waits-in_life r name r.place refl)

-- the queues have under a name what waits of its row
pub parked_under : (queues : List (Option ParkedName)) (rows : List Row) (name : ConnName) → queues ≡ queues_of rows
    → parked_of queues name ≡ waits_under rows name
parked_under queues rows name queued =
    ap (λ (qs : List (Option ParkedName)). parked_of qs name) queued ∙ waits-found rows name (slice_get rows name.slot) refl

-- a row that waits has something parked
some-parked : (p : Place) (r : Row) → is_parked p ≡ true → is_some (waits_at p r) ≡ true
some-parked (Parked kind) r parked = refl
some-parked p r parked = absurd (cc)

-- so the name of a row that waits is parked
pub under-parked : (rows : List Row) (name : ConnName) (r : Row) → live_row rows name ≡ Some r → is_parked r.place ≡ true
    → is_some (waits_under rows name) ≡ true
under-parked rows name r found parked = rw found (some-parked r.place r parked)

-- and the queues have it
pub is-parked : (queues : List (Option ParkedName)) (rows : List Row) (name : ConnName) (r : Row) → queues ≡ queues_of rows
    → live_row rows name ≡ Some r → is_parked r.place ≡ true → is_some (parked_of queues name) ≡ true
is-parked queues rows name r queued found parked =
    ap (λ (q : Option ParkedName). is_some q) (parked_under queues rows name queued) ∙ under-parked rows name r found parked

-- nothing stands at the slot of a row that doesn't wait
pub is-free : (queues : List (Option ParkedName)) (rows : List Row) (slot : ℕ) (r : Row) → queues ≡ queues_of rows
    → slice_get rows slot ≡ Some r → is_parked r.place ≡ false → IsFree queues slot
is-free queues rows slot r queued at away =
    ap (λ (qs : List (Option ParkedName)). slice_get qs slot) queued
    ∙ get-map waits_in rows slot r at
    ∙ ap Some (away-waits r.place r away)

-- ## The first of them to be late

-- the deadlines in the queues are those of the rows that wait
deadlines-place : (r : Row) (rows : List Row) (p : Place) → r.place ≡ p
    → map (λ (q : ParkedName). q.deadline) (all_parked (queues_of rows)) ≡ waiting_deadlines rows
    → map (λ (q : ParkedName). q.deadline) (all_parked (queues_of (r ∷ rows))) ≡ waiting_deadlines (r ∷ rows)
deadlines-place r rows Vacant at same = rw at same
deadlines-place r rows Spent at same = rw at same
deadlines-place r rows Held at same = rw at same
deadlines-place r rows (Parked kind) at same = rw at (ap (λ (ns : List ℕ). r.deadline ∷ ns) same)
deadlines-place r rows Queued at same = rw at same
deadlines-place r rows (Working cell phase) at same = rw at same

-- so of all rows
deadlines-queued : (rows : List Row) → map (λ (q : ParkedName). q.deadline) (all_parked (queues_of rows)) ≡ waiting_deadlines rows
deadlines-queued [] = refl
deadlines-queued (r ∷ rows) = deadlines-place r rows r.place refl (deadlines-queued rows)

-- the least deadline in the queues is the least of a row that waits
pub least_waiting : (queues : List (Option ParkedName)) (rows : List Row) → queues ≡ queues_of rows
    → least_deadline queues ≡ reduce min (waiting_deadlines rows)
least_waiting queues rows queued =
    ap least_deadline queued ∙ ap (reduce min) (deadlines-queued rows)

-- ## What is late

-- where nothing is late, the first row isn't, and nothing behind it
late-first : (now : ℕ) (y : Row) (rows : List Row) (p : Place) (late : Bool) → y.place ≡ p → nat_le y.deadline now ≡ late
    → overdue_at now (queues_of (y ∷ rows)) ≡ [] → (is_overdue now y ≡ false) × (overdue_at now (queues_of rows) ≡ [])
late-first now y rows Vacant late at is none = (rw at refl, rw at at none)
late-first now y rows Spent late at is none = (rw at refl, rw at at none)
late-first now y rows Held late at is none = (rw at refl, rw at at none)
late-first now y rows (Parked kind) true at is none =
    let never : _ ∷ _ ≡ [] = rw is at (rw at at none) in
    absurd (cc)
late-first now y rows (Parked kind) false at is none = (rw (at, is) refl, rw is at (rw at at none))
late-first now y rows Queued late at is none = (rw at refl, rw at at none)
late-first now y rows (Working cell phase) late at is none = (rw at refl, rw at at none)

-- where nothing is late in the queues, no row that waits is late
late-none : (now : ℕ) (rows : List Row) → overdue_at now (queues_of rows) ≡ []
    → (slot : ℕ) (r : Row) → slice_get rows slot ≡ Some r → is_overdue now r ≡ false
late-none now [] none slot r at = absurd (cc)
late-none now (y ∷ rows) none zero r at =
    let e : y ≡ r = cc in
    subst (λ (x : Row). is_overdue now x ≡ false) e (late-first now y rows y.place (nat_le y.deadline now) refl refl none).0
late-none now (y ∷ rows) none (suc slot) r at =
    late-none now rows (late-first now y rows y.place (nat_le y.deadline now) refl refl none).1 slot r at

-- the same of the board's queues
pub none_late : (queues : List (Option ParkedName)) (rows : List Row) (now : ℕ) → queues ≡ queues_of rows → overdue_at now queues ≡ []
    → (slot : ℕ) (r : Row) → slice_get rows slot ≡ Some r → is_overdue now r ≡ false
none_late queues rows now queued none =
    late-none now rows (ap (λ (qs : List (Option ParkedName)). overdue_at now qs) (sym queued) ∙ none)

-- what is late at its place is a late row
late-row : (now : ℕ) (r : Row) (p : Place) → r.place ≡ p → IsSomeAnd (waits_at p r) (λ q. q.deadline ≤ now) → is_overdue now r ≡ true
late-row now r (Parked kind) at late = rw at (le-leb r.deadline now late)
late-row now r p at late = absurd late

-- a late name in the queues is that of a late row, whose deadline it has
pub record IsLateRow (rows : List Row) (now : ℕ) (name : ConnName) : Type 0 where
  pub late : lives_and (is_overdue now) rows name ≡ true
  pub deadline : option_map (λ q. q.deadline) (waits_under rows name) ≡ option_map (λ r. r.deadline) (live_row rows name)

-- a late row at its place has the deadline that the queues have
late-deadline : (now : ℕ) (r : Row) (p : Place) → r.place ≡ p → IsSomeAnd (waits_at p r) (λ q. q.deadline ≤ now)
    → option_map (λ (q : ParkedName). q.deadline) (waits_in r) ≡ Some r.deadline
late-deadline now r (Parked kind) at late = rw at refl
late-deadline now r p at late = absurd late

-- the row of the name, where it lives
late-found : (rows : List Row) (now : ℕ) (name : ConnName) (o : Option Row) → live_row rows name ≡ o
    → IsSomeAnd (waits_under rows name) (λ q. q.deadline ≤ now) → IsLateRow rows now name
late-found rows now name None found late = absurd (rw found at late)
late-found rows now name (Some r) found late =
    let here : IsSomeAnd (waits_in r) (λ q. q.deadline ≤ now) = rw found at late in
    record {
      late = rw found (late-row now r r.place refl here);
      deadline = rw found (late-deadline now r r.place refl here);
    }

-- the same of the board's queues
pub is_late-row : (queues : List (Option ParkedName)) (rows : List Row) (now : ℕ) (name : ConnName) → queues ≡ queues_of rows
    → IsPastDeadline queues now name → IsLateRow rows now name
is_late-row queues rows now name queued late =
    late-found rows now name (live_row rows name) refl
    (subst (λ (q : Option ParkedName). IsSomeAnd q (λ p. p.deadline ≤ now)) (parked_under queues rows name queued) late)

-- the late name with the least deadline is that of a row with the least of those that wait
pub first_waiting : (queues : List (Option ParkedName)) (rows : List Row) (now : ℕ) (name : ConnName) → queues ≡ queues_of rows
    → IsPastDeadline queues now name → deadline_of queues name ≡ least_deadline queues
    → option_map (λ r. r.deadline) (live_row rows name) ≡ reduce min (waiting_deadlines rows)
first_waiting queues rows now name queued late first =
    sym (is_late-row queues rows now name queued late).deadline
    ∙ ap (λ (q : Option ParkedName). option_map (λ p. p.deadline) q) (sym (parked_under queues rows name queued))
    ∙ first ∙ least_waiting queues rows queued

-- what the queues answer for a late name is so of the rows
pub overdue-finds : (s : State) (queues : List (Option ParkedName)) (now : ℕ) (o : Option ConnName) → queues ≡ queues_of s.rows → now ≡ s.moment
    → (IsNone o ↔ (overdue_at now queues ≡ [])) → IfSome o (IsPastDeadline queues now) → FindsRow (is_late s) s o
overdue-finds s queues now None queued moment none late =
    subst (λ (n : ℕ). (slot : ℕ) (r : Row) → slice_get s.rows slot ≡ Some r → is_overdue n r ≡ false) moment (none_late queues s.rows now queued (none.0 refl))
overdue-finds s queues now (Some name) queued moment none late =
    subst (λ (n : ℕ). lives_and (is_overdue n) s.rows name ≡ true) moment (is_late-row queues s.rows now name queued late).late

-- and none that waits has an earlier deadline
pub overdue-first : (s : State) (queues : List (Option ParkedName)) (now : ℕ) (o : Option ConnName) → queues ≡ queues_of s.rows
    → IfSome o (IsPastDeadline queues now) → IfSome o (λ name. deadline_of queues name ≡ least_deadline queues) → IfSome o (IsFirstDue s)
overdue-first s queues now None queued late first = tt
overdue-first s queues now (Some name) queued late first = first_waiting queues s.rows now name queued late first
