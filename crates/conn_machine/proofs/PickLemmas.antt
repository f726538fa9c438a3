-- The child that admission names.
use Rattle.std.proofs.Common.{◌≡◌, ◌<◌, ◌≤◌, ◌==◌, ℕ, ◌+◌, ◌*◌, Bool, true, ◌&&◌, nat_lt, List, [], ◌∷◌, length, map, filter, min, get_or, Some, All, inl, inr, refl, sym, ap, ◌∙◌, subst, arith}
use Rattle.std.specs.List.{enumerate_from}
use Rattle.std.specs.Option.{option_map_or}
use Rattle.std.proofs.lemmas.Bool.{cases_lt, and_parts, and_from}
use Rattle.std.proofs.lemmas.List.{length-map, get_or-map, get_or_past}
use Rattle.std.proofs.lemmas.List.Elements.{All-filter, All-head, All-map, All-tail, filter_passes}
use Rattle.std.proofs.lemmas.List.FromFn.{length-enumerate_from, get_or-enumerate_from}
use Rattle.admission.specs.declared.ChildCount.{ChildCount}
use Rattle.admission.specs.Admission.{candidates, has_room, is_candidate, least, most_idle, pick_of}
use Rattle.admission.specs.Picked.{IsPicked}
use Rattle.conn_machine.specs.declared.child.Child.{Child}
use Rattle.conn_machine.specs.declared.state.State.{State}
use Rattle.conn_machine.specs.Rows.{open_count}
use Rattle.conn_machine.specs.Children.{child_at, is_running, no_child}
use Rattle.conn_machine.specs.States.{child_count, child_counts, pick_child}
use Rattle.conn_machine.specs.Laws.{admits_in, idle_in, IsChosen}

-- each child is counted
length-counts : (s : State) → length (child_counts s) ≡ length s.children
length-counts s =
    length-map (enumerate_from 0 s.children) (child_count s) ∙ length-enumerate_from 0 s.children

-- at its number
get_or-counts : (s : State) (i : ℕ) (d : ChildCount) → i < length s.children
    → get_or (child_counts s) i d ≡ child_count s (i, child_at s.children i)
get_or-counts s i d within =
    let below : i < length (enumerate_from 0 s.children) = omega (arith, length-enumerate_from 0 s.children) in
    let number : 0 + i ≡ i = omega arith in
    get_or-map (child_count s) (enumerate_from 0 s.children) i (0, no_child) d below
    ∙ ap (child_count s) (get_or-enumerate_from 0 s.children i (0, no_child) within)
    ∙ ap (λ (n : ℕ). child_count s (n, child_at s.children i)) number

-- a number that no child has admits nothing
admits_below : (s : State) (k : ℕ) → admits_in s k ≡ true → k < length s.children
admits_below s k admits =
    elim (cases_lt k (length s.children)) [
      | inl below ↦ below
      | inr past ↦
          let none = ap (λ (c : Child). is_running c.phase) (get_or_past s.children k no_child past) in
          let c = child_at s.children k in
          let parts = and_parts (is_running c.phase && c.generation == s.newest)
          (nat_lt (100 * open_count s.rows k) (100 * c.shape.threads + c.shape.factor * idle_in s k)) admits in
          let runs = (and_parts (is_running c.phase) (c.generation == s.newest) parts.0).0 in
          absurd (cc)
    ]

-- the picked count is that of the child of the number
picked-count : (s : State) (k : ℕ) (found : IsPicked (child_counts s) k) → found.child ≡ child_count s (k, child_at s.children k)
picked-count s k found =
    let i = found.listed.0 in
    let within : i < length s.children = omega (arith, found.listed.1, length-counts s) in
    let at : found.child ≡ child_count s (i, child_at s.children i) = sym found.listed.2 ∙ get_or-counts s i found.child within in
    let number : i ≡ k = sym (ap (λ (c : ChildCount). c.child) at) ∙ found.numbered in
    at ∙ ap (λ (n : ℕ). child_count s (n, child_at s.children n)) number

-- what holds of each count that passes holds of each child that admits
at_admitting : (s : State) (P : ChildCount → Type 0) → All (λ c. is_candidate c ≡ true → P c) (child_counts s)
    → (other : ℕ) → admits_in s other ≡ true → P (child_count s (other, child_at s.children other))
at_admitting s P each other admits =
    let few = admits_below s other admits in
    let d = child_count s (other, child_at s.children other) in
    let below : other < length (child_counts s) = omega (arith, length-counts s) in
    let holds : is_candidate d ≡ true → P d
    = subst (λ (c : ChildCount). is_candidate c ≡ true → P c) (get_or-counts s other d few) (each other d below) in
    holds admits

-- the child whose number is picked is the chosen one
chosen_if_picked : (s : State) (k : ℕ) → IsPicked (child_counts s) k → IsChosen s k
chosen_if_picked s k found =
    let own = picked-count s k found in
    let passes = and_from found.child.running (has_room found.child.t found.child.factor found.child.idle found.child.count) found.runs found.room in
    let idle : found.child.idle ≡ idle_in s k = ap (λ (c : ChildCount). c.idle) own in
    record {
      admits = sym (ap is_candidate own) ∙ passes;
      none_idler = λ other admits.
          rw (← idle) (at_admitting s (λ c. c.idle ≤ found.child.idle) found.none_idler other admits);
      none_lower = λ other admits as_many.
          at_admitting s (λ c. c.idle ≡ found.child.idle → k ≤ c.child) found.none_lower other admits (as_many ∙ sym idle);
    }

-- the law of admission: the number that it gives is picked
abbrev pub PicksOne : Type 0
PicksOne = (cs : List ChildCount) (k : ℕ) → pick_of cs ≡ Some k → IsPicked cs k

-- so the child that admission names is the chosen one
pub pick_is_chosen : PicksOne → (s : State) (k : ℕ) → pick_child s ≡ Some k → IsChosen s k
pick_is_chosen law s k picked = chosen_if_picked s k (law (child_counts s) k picked)

-- ## It admits

-- what holds of each of some numbers holds of the least of them
least_is : (P : ℕ → Type 0) (ns : List ℕ) (k : ℕ) → All P ns → least ns ≡ Some k → P k
least_is P [] k each is = absurd (cc)
least_is P (n ∷ []) k each is =
    let same : n ≡ k = cc in
    subst P same (All-head P n [] each)
least_is P (n ∷ m ∷ ns) k each is =
    let j : ℕ = option_map_or (min m) (least ns) m in
    let is_min : min n j ≡ k = cc in
    elim (cases_lt n j) [
      | inl below ↦
          let same : n ≡ k = omega (arith, below, is_min) in
          subst P same (All-head P n (m ∷ ns) each)
      | inr above ↦
          let same : j ≡ k = omega (arith, above, is_min) in
          subst P same (least_is P (m ∷ ns) j (All-tail P n (m ∷ ns) each) refl)
    ]

-- a child that runs and has room admits
counts_admit : (s : State) → All (λ c. is_candidate c ≡ true → admits_in s c.child ≡ true) (child_counts s)
counts_admit s = λ i d below.
    let within : i < length s.children = omega (arith, below, length-counts s) in
    subst (λ (c : ChildCount). is_candidate c ≡ true → admits_in s c.child ≡ true) (sym (get_or-counts s i d within)) (λ passes. passes)

-- the child that admission names does
pub pick_admits : (s : State) (k : ℕ) → pick_child s ≡ Some k → admits_in s k ≡ true
pick_admits s k picked =
    let cs = child_counts s in
    let p : ChildCount → Bool = λ c. c.idle == most_idle cs in
    let Admits : ChildCount → Type 0 = λ c. admits_in s c.child ≡ true in
    let each : All Admits (candidates cs) =
    λ i d below. All-filter is_candidate (λ c. is_candidate c ≡ true → Admits c) cs (counts_admit s) i d below (filter_passes is_candidate cs i d below) in
    least_is (λ n. admits_in s n ≡ true) (map (λ (c : ChildCount). c.child) (filter p (candidates cs))) k
    (All-map (λ n. admits_in s n ≡ true) (λ (c : ChildCount). c.child) (filter p (candidates cs)) (All-filter p Admits (candidates cs) each)) picked
