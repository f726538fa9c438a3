-- Two connections that a child serves have different cells.
use Rattle.std.proofs.Common.{◌≡◌, ◌≤◌, ℕ, zero, suc, Bool, true, false, List, [], ◌∷◌, count_by, Option, Some, slice_get, refl, ap, subst, sym, ◌∙◌, arith}
use Rattle.std.proofs.lemmas.Grind.{common_steps}
use Rattle.std.specs.Option.{option_map_or}
use Rattle.mpm_base.specs.declared.conn.ConnName.{ConnName}
use Rattle.conn_machine.specs.declared.row.Phase.{Phase}
use Rattle.conn_machine.specs.declared.row.Place.TheVariants.{Working}
use Rattle.conn_machine.specs.declared.row.Row.{Row}
use Rattle.conn_machine.specs.declared.state.State.{State}
use Rattle.conn_machine.specs.Rows.{is_served_in, live_row}
use Rattle.conn_machine.specs.Sound.{IsSound}
use Rattle.conn_machine.proofs.OwnRows.{met, some_is}

-- an item that passes is counted
count_by-some : {X : Type 0} (test : X → Bool) (xs : List X) (i : ℕ) (x : X) → slice_get xs i ≡ Some x → test x ≡ true
    → 1 ≤ count_by test xs
count_by-some test [] i x at passes = absurd (cc)
count_by-some test (y ∷ xs) zero x at passes =
    let e : y ≡ x = cc in
    grind (arith, common_steps)
count_by-some test (y ∷ xs) (suc i) x at passes =
    grind (arith, common_steps, count_by-some test xs i x at passes)

-- where at most one item passes, two places whose items pass are one place
at_most_one : {X : Type 0} (test : X → Bool) (xs : List X) (i j : ℕ) (x y : X) → slice_get xs i ≡ Some x → slice_get xs j ≡ Some y
    → test x ≡ true → test y ≡ true → count_by test xs ≤ 1 → i ≡ j
at_most_one test [] i j x y at other passes too few = absurd (cc)
at_most_one test (z ∷ xs) zero zero x y at other passes too few = refl
at_most_one test (z ∷ xs) zero (suc j) x y at other passes too few =
    let e : z ≡ x = cc in
    let one : test z ≡ true = ap test e ∙ passes in
    let more : 1 ≤ count_by test xs = count_by-some test xs j y other too in
    absurd (grind (arith, common_steps))
at_most_one test (z ∷ xs) (suc i) zero x y at other passes too few =
    let e : z ≡ y = cc in
    let one : test z ≡ true = ap test e ∙ too in
    let more : 1 ≤ count_by test xs = count_by-some test xs i x at passes in
    absurd (grind (arith, common_steps))
at_most_one test (z ∷ xs) (suc i) (suc j) x y at other passes too few =
    let fewer : count_by test xs ≤ 1 = grind (arith, common_steps) in
    ap suc (at_most_one test xs i j x y at other passes too fewer)

-- a row that works in a cell is served in it
served_in : (k c : ℕ) (phase : Phase) (r : Row) → r.place ≡ Working c phase → r.child ≡ k → is_served_in k c r ≡ true
served_in k c phase r works of = rw works (rw of (grind (arith, common_steps)))

-- two rows of a child that work in one cell stand in one slot
pub cells_differ : (s : State) (slot other cell : ℕ) (r r' : Row) (phase phase' : Phase) → IsSound s → slice_get s.rows slot ≡ Some r
    → slice_get s.rows other ≡ Some r' → r.place ≡ Working cell phase → r'.place ≡ Working cell phase' → r.child ≡ r'.child → slot ≡ other
cells_differ s slot other cell r r' phase phase' sound at at' works works' same =
    at_most_one (is_served_in r'.child cell) s.rows slot other r r' at at'
    (served_in r'.child cell phase r works same) (served_in r'.child cell phase' r' works' refl) (sound.cells.differ r'.child cell)

-- two live connections of a slot are one
pub names_of_slot : (rows : List Row) (name other : ConnName) (r r' : Row) → live_row rows name ≡ Some r → live_row rows other ≡ Some r'
    → name.slot ≡ other.slot → name ≡ other
names_of_slot rows name other r r' first second same =
    let lives = λ (o : Option Row). option_map_or (λ (x : Row). true) o false in
    let a = met (λ (x : Row). true) rows name (ap lives first) in
    let b = met (λ (x : Row). true) rows other (ap lives second) in
    let there : slice_get rows other.slot ≡ Some a.row = subst (λ (slot : ℕ). slice_get rows slot ≡ Some a.row) same a.at in
    let row : a.row ≡ b.row = some_is (slice_get rows other.slot) a.row b.row there b.at in
    let life : name.life ≡ other.life = sym a.life ∙ ap (λ (x : Row). x.life) row ∙ b.life in
    let moved : name ≡ record name { slot = other.slot } = ap (λ (slot : ℕ). record name { slot = slot }) same in
    moved ∙ ap (λ (life : ℕ). record other { life = life }) life
