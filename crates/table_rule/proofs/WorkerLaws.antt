-- A child's workers carry no more rows than permits are out.
use Rattle.std.proofs.Common.{◌≡◌, ◌⊎◌, inl, inr, ⊎_elim, ℕ, zero, suc, ◌+◌, ◌<◌, ◌≤◌, ◌==◌, Bool, true, false, cond, List, [], ◌∷◌, length, count_by, Option, Some, None, slice_get, refl, sym, ap, subst, ◌∙◌, arith, eq-eqb, ne_eqb}
use Rattle.std.specs.Option.{option_map_or}
use Rattle.std.proofs.lemmas.Bool.{and_parts, eqb-true}
use Rattle.std.proofs.lemmas.List.Sums.{sum_by-cons}
use native.Mathlib.Decide.{ℕ_discrete}
use mathlib.Core.Option as m
use lib.ListN.{get_elem?}
use Rattle.mpm_base.specs.declared.conn.ConnName.{ConnName}
use Rattle.conn_machine.specs.declared.row.Place.{Place}
use Rattle.conn_machine.specs.declared.row.Place.TheVariants.{Vacant, Spent, Held, Parked, Queued, Working}
use Rattle.conn_machine.specs.declared.row.Row.{Row}
use Rattle.conn_machine.specs.declared.event.Entry.{Entry}
use Rattle.conn_machine.specs.declared.state.State.{State}
use Rattle.conn_machine.specs.Rows.{carried_count, is_carried_at, is_carried_by, is_with_a_pass, row_passes}
use Rattle.conn_machine.specs.Folds.{opening_record}
use Rattle.conn_machine.specs.Runs.{after, entries_of, row_of}
use Rattle.table_rule.specs.declared.view.View.{View}
use Rattle.conn_machine.specs.Made.{AreMade, IsOpened}
use Rattle.table_rule.specs.Histories.{threads_of}
use Rattle.table_rule.specs.IdleWords.{bit, bit_at, sum_of, permits, AreIdleWords}
use Rattle.table_rule.proofs.MachineLemmas.{SomeoneHas, none_some, row_none}
use Rattle.table_rule.proofs.SumLemmas.{sum_le, sum_less, sum_has, sum_add, sum_zero, bit_self}
use Rattle.table_rule.proofs.WordLemmas.{below_at}

-- ## Counting by places

-- how many numbers below n pass
abbrev count : (ℕ → Bool) → ℕ → ℕ
count p zero = 0
count p (suc n) = count p n + bit (p n)

bit_cond : (b : Bool) → cond b 1 0 ≡ bit b
bit_cond true = refl
bit_cond false = refl

count_first : (test : Row → Bool) (x : Row) (xs : List Row) (n : ℕ) → count (row_passes test (x ∷ xs)) (suc n) ≡ bit (test x) + count (row_passes test xs) n
count_first test x xs zero = omega arith
count_first test x xs (suc n) = let c = count_first test x xs n in omega arith

-- rows are counted by their slots
counted_by : (test : Row → Bool) (rows : List Row) → count_by test rows ≡ count (row_passes test rows) (length rows)
counted_by test [] = refl
counted_by test (x ∷ xs) =
    let a : count_by test (x ∷ xs) ≡ cond (test x) 1 0 + count_by test xs = sum_by-cons (λ y. cond (test y) 1 0) x xs in let b = counted_by test xs in let c = count_first test x xs (length xs) in let d = bit_cond (test x) in omega arith

-- ## Where each row that passes stands in a view

-- the row of that slot is this one
abbrev hit : ℕ → Option ConnName → ℕ
hit n None = 0
hit n (Some name) = bit (name.slot == n)

abbrev hit_if : ℕ → Option ConnName → Bool → ℕ
hit_if n o true = hit n o
hit_if n o false = 0

-- its row is below n and passes
abbrev inside : (ℕ → Bool) → ℕ → Option ConnName → ℕ
inside p zero o = 0
inside p (suc n) o = inside p n o + hit_if n o (p n)

abbrev Stands : (ℕ → Bool) → ℕ → List View → Type 0
Stands p n views = (slot : ℕ) → slot < n → p slot ≡ true → (id : ℕ) × (v : View) × (name : ConnName) × (get_elem? views id ≡ m.some v) × (v.row ≡ Some name) × (name.slot ≡ slot)

counted : (p : ℕ → Bool) (n : ℕ) (views : List View) → Stands p n views → count p n ≤ sum_of (λ v. inside p n v.row) views
counted p zero views stands = omega arith
counted p (suc n) views stands =
    let before = counted p n views (λ r lt h. stands r (omega arith) h) in
    more (p n) refl before
  where
    more : (b : Bool) → p n ≡ b → count p n ≤ sum_of (λ v. inside p n v.row) views
        → count p n + bit b ≤ sum_of (λ v. inside p n v.row + hit_if n v.row b) views
    more true h before =
        let s = stands n (omega arith) h in
        let here : hit n s.1.row ≡ 1 = ap (hit n) s.4 ∙ ap bit (eq-eqb s.2.slot n s.5) in
        let a = sum_has (λ v. hit n v.row) views s.0 s.1 s.3 in
        let b = sum_add (λ v. inside p n v.row) (λ v. hit n v.row) views in omega (arith, here)
    more false h before = let b = sum_add (λ v. inside p n v.row) (λ _. 0) views in let z = sum_zero views in omega arith

none_inside : (p : ℕ → Bool) (n : ℕ) → inside p n None ≡ 0
none_inside p zero = refl
none_inside p (suc n) = let i = none_inside p n in by (p n) i
  where
    by : (b : Bool) → inside p n None ≡ 0 → inside p n None + hit_if n None b ≡ 0
    by true i = omega arith
    by false i = omega arith

outside : (p : ℕ → Bool) (n : ℕ) (name : ConnName) → n ≤ name.slot → inside p n (Some name) ≡ 0
outside p zero name le = refl
outside p (suc n) name le =
    let o = outside p n name (omega arith) in let h : hit n (Some name) ≡ 0 = ap bit (ne_eqb name.slot n (λ e. omega arith)) in by (p n) o h
  where
    by : (b : Bool) → inside p n (Some name) ≡ 0 → hit n (Some name) ≡ 0 → inside p n (Some name) + hit_if n (Some name) b ≡ 0
    by true o h = omega arith
    by false o h = omega arith

some_inside : (p : ℕ → Bool) (n : ℕ) (name : ConnName) → inside p n (Some name) ≤ bit (p name.slot)
some_inside p zero name = omega arith
some_inside p (suc n) name = elim (ℕ_discrete name.slot n) [
  | yes same ↦
      let o = outside p n name (omega (arith, same)) in let h : hit n (Some name) ≡ 1 = ap bit (eq-eqb name.slot n same) in
      subst (λ k. inside p n (Some name) + hit_if n (Some name) (p n) ≤ bit (p k)) (sym same) (here (p n) o h)
  | no ne ↦
      let s = some_inside p n name in let h : hit n (Some name) ≡ 0 = ap bit (ne_eqb name.slot n ne) in there (p n) s h
]
  where
    here : (b : Bool) → inside p n (Some name) ≡ 0 → hit n (Some name) ≡ 1 → inside p n (Some name) + hit_if n (Some name) b ≤ bit b
    here true o h = omega arith
    here false o h = omega arith

    there : (b : Bool) → inside p n (Some name) ≤ bit (p name.slot) → hit n (Some name) ≡ 0 → inside p n (Some name) + hit_if n (Some name) b ≤ bit (p name.slot)
    there true s h = omega arith
    there false s h = omega arith

-- a view whose row passes has one
abbrev Covers : (ℕ → Bool) → (View → ℕ) → View → Type 0
Covers p f v = (name : ConnName) → v.row ≡ Some name → p name.slot ≡ true → 1 ≤ f v

inside_le : (p : ℕ → Bool) (n : ℕ) (f : View → ℕ) (v : View) → Covers p f v → (o : Option ConnName) → v.row ≡ o → inside p n o ≤ f v
inside_le p n f v has None e = let i = none_inside p n in omega arith
inside_le p n f v has (Some name) e = let i = some_inside p n name in by (p name.slot) refl i
  where
    by : (b : Bool) → p name.slot ≡ b → inside p n (Some name) ≤ bit b → inside p n (Some name) ≤ f v
    by true h i = let c = has name e h in omega arith
    by false h i = omega arith

all_stand : (p : ℕ → Bool) (n : ℕ) (f : View → ℕ) (views : List View) → Stands p n views
    → ((id : ℕ) (v : View) → get_elem? views id ≡ m.some v → Covers p f v) → count p n ≤ sum_of f views
all_stand p n f views stands has =
    let c = counted p n views stands in
    let t = sum_le (λ u. inside p n u.row) f views (λ j u e. inside_le p n f u (has j u e) u.row refl) in
    omega arith

-- one view that has none of the rows leaves room
one_spare : (p : ℕ → Bool) (n : ℕ) (f : View → ℕ) (views : List View) → Stands p n views
    → ((id : ℕ) (v : View) → get_elem? views id ≡ m.some v → Covers p f v)
    → (id : ℕ) (v : View) → get_elem? views id ≡ m.some v → v.row ≡ None → 1 ≤ f v → count p n < sum_of f views
one_spare p n f views stands has id v at none one =
    let c = counted p n views stands in
    let mine : inside p n v.row < f v = (let i : inside p n v.row ≡ 0 = ap (inside p n) none ∙ none_inside p n in omega arith) in
    let t = sum_less (λ u. inside p n u.row) f views id v at mine (λ j u e. inside_le p n f u (has j u e) u.row refl) in
    omega arith

-- ## The workers of a child

nat_below : (a b : ℕ) → (a < b) ⊎ (b ≤ a)
nat_below zero zero = inr (omega arith)
nat_below zero (suc b) = inl (omega arith)
nat_below (suc a) zero = inr (omega arith)
nat_below (suc a) (suc b) = ⊎_elim (λ (l : a < b). inl (omega arith)) (λ (g : b ≤ a). inr (omega arith)) (nat_below a b)

-- what the rule says of views and history
pub record AreViews (start : State) (passes : ℕ) (history : List Entry) (words : List ℕ) (views : List View) (credits : List ℕ) : Type 0 where
  pub opened : IsOpened start
  pub made : AreMade start (opening_record passes) history
  pub undrawn : (n : ℕ) → length views ≤ n → entries_of n history ≡ []
  pub rows : (id : ℕ) (v : View) → get_elem? views id ≡ m.some v → v.row ≡ row_of id history
  pub idle : AreIdleWords (after start history) words views credits

carried_place : (k : ℕ) (r : Row) → is_carried_by k r ≡ true → (r.child ≡ k) × (is_carried_at r.place ≡ true)
carried_place k r is = let b = and_parts (r.child == k) (is_carried_at r.place) is in (eqb-true r.child k b.0, b.1)

carried_hand : (place : Place) → is_carried_at place ≡ true → is_with_a_pass place ≡ true
carried_hand Vacant is = absurd (cc)
carried_hand Spent is = absurd (cc)
carried_hand Held is = refl
carried_hand (Parked kind) is = absurd (cc)
carried_hand Queued is = refl
carried_hand (Working cell phase) is = refl

-- the row of a slot that passes
passes_at : (test : Row → Bool) (rows : List Row) (slot : ℕ) → row_passes test rows slot ≡ true → (r : Row) × (slice_get rows slot ≡ Some r) × (test r ≡ true)
passes_at test rows slot is = by (slice_get rows slot) refl is
  where
    by : (o : Option Row) → slice_get rows slot ≡ o → option_map_or test o false ≡ true → (r : Row) × (slice_get rows slot ≡ Some r) × (test r ≡ true)
    by None e h = absurd (cc)
    by (Some r) e h = (r, e, h)

-- each row that a pass has stands in a view
pub stands_in_view : SomeoneHas → (start : State) (passes : ℕ) (history : List Entry) (words : List ℕ) (views : List View) (credits : List ℕ) → AreViews start passes history words views credits
    → (slot : ℕ) (r : Row) → slice_get (after start history).rows slot ≡ Some r → is_with_a_pass r.place ≡ true
    → (id : ℕ) × (v : View) × (name : ConnName) × (get_elem? views id ≡ m.some v) × (v.row ≡ Some name) × (name.slot ≡ slot)
stands_in_view someone start passes history words views credits a slot r at hand =
    let who = someone start passes history slot r a.opened a.made at hand in
    ⊎_elim
    (λ (below : who.0 < length views). let v = below_at views who.0 below in (who.0, v.0, who.1, v.1, a.rows who.0 v.0 v.1 ∙ who.2, who.3))
    (λ (above : length views ≤ who.0). none_some (row_of who.0 history) who.1 (row_none who.0 history (a.undrawn who.0 above)) who.2)
    (nat_below who.0 (length views))

module _ (someone : SomeoneHas) (start : State) (passes : ℕ) (history : List Entry) (words : List ℕ) (views : List View) (credits : List ℕ) (a : AreViews start passes history words views credits) (k : ℕ) where
  stands : Stands (row_passes (is_carried_by k) (after start history).rows) (length (after start history).rows) views
  stands slot lt is =
      let row = passes_at (is_carried_by k) (after start history).rows slot is in
      stands_in_view someone start passes history words views credits a slot row.0 row.1 (carried_hand row.0.place (carried_place k row.0 row.2).1)

  covers : (id : ℕ) (v : View) → get_elem? views id ≡ m.some v → Covers (row_passes (is_carried_by k) (after start history).rows) (permits k) v
  covers id v at name is passes =
      let row = passes_at (is_carried_by k) (after start history).rows name.slot passes in
      let place = carried_place k row.0 row.2 in
      let has : v.hand.permit ≡ Some row.0.child = a.idle.holders id v at name row.0 is row.1 place.1 in
      let one : permits k v ≡ 1 = ap (bit_at k) has ∙ ap bit (eq-eqb row.0.child k place.0) in omega arith

  pub carried_permits : carried_count (after start history).rows k ≤ sum_of (permits k) views
  carried_permits =
      let c = all_stand (row_passes (is_carried_by k) (after start history).rows) (length (after start history).rows) (permits k) views stands covers in
      let d = counted_by (is_carried_by k) (after start history).rows in omega arith

  -- a permit without a row leaves a worker free
  pub free_worker : (id : ℕ) (v : View) → get_elem? views id ≡ m.some v → v.row ≡ None → v.hand.permit ≡ Some k
      → carried_count (after start history).rows k < threads_of (after start history) k
  free_worker id v at none permit =
      let one : permits k v ≡ 1 = ap (bit_at k) permit ∙ bit_self k in
      let c = one_spare (row_passes (is_carried_by k) (after start history).rows) (length (after start history).rows) (permits k) views stands covers id v at none (omega (arith, one)) in
      let d = counted_by (is_carried_by k) (after start history).rows in
      let lt : k < 32 = a.idle.children id v at k permit in
      let p = a.idle.permitted k lt in
      ⊎_elim (λ z. absurd (omega (arith, z))) (λ t. omega (arith, t)) (a.idle.credited k lt)
