-- The order of names: names in two parts, names with one front, and the place of a name among names in their order.
use Rattle.std.proofs.Common.{◌≡◌, ◌≢◌, ℕ, ◌<◌, ◌≤◌, Bool, true, false, ◌&&◌, List, [], ◌∷◌, ◌++◌, length, take, drop, get_or, Some, None, refl, sym, ap, ◌∙◌, subst, inl, inr, arith, eqb}
use Rattle.std.specs.Cmp.Lexicographic.{slice_cmp, texts_ties, same_text}
use Rattle.std.specs.List.{position, starts_with, list_any}
use Rattle.std.specs.List.Sorted.{IsPartitionPoint, IsPartitionedBy, IsSortedByKey}
use Rattle.std.specs.Ordering.{is_lt, is_le, is_eq, nat_cmp, ordering_then, ordering_index, ordering_reverse}
use Rattle.std.specs.declared.cmp.Ordering.{Ordering}
use Rattle.std.specs.declared.cmp.Ordering.TheVariants.{Less, Equal, Greater}
use Rattle.std.specs.Str.{bytes_eq}
use Rattle.std.proofs.lemmas.Bool.{false≢true, cases_lt}
use Rattle.std.proofs.lemmas.List.{get_or_default}
use Rattle.std.proofs.lemmas.Bool.Decides.{nat_tests}
use Rattle.std.proofs.lemmas.Cmp.{nat_list_cmp_total}
use Rattle.std.proofs.lemmas.List.Sorted.{searchable_from_sorted, ranks_by, sorted_far}
use Rattle.std.proofs.lemmas.List.Sums.{position_or_len_is}
use Rattle.std.proofs.lemmas.List.Folds.{list_any_at, list_any_none}
use Rattle.std.proofs.lemmas.Slice.Eq.{bytes_eq-Decides}
use Rattle.file_table.specs.Order.{name_goes_before}

then_assoc : (a b c : Ordering) → ordering_then (ordering_then a b) c ≡ ordering_then a (ordering_then b c)
then_assoc Less b c = refl
then_assoc Equal b c = refl
then_assoc Greater b c = refl

-- a name against one in two parts: the front decides, and else the back
pub compare_parts : (name front back : List ℕ) → length front ≤ length name
    → slice_cmp nat_cmp name (front ++ back)
    ≡ ordering_then (slice_cmp nat_cmp (take (length front) name) front) (slice_cmp nat_cmp (drop (length front) name) back)
compare_parts name [] back h = refl
compare_parts [] (f ∷ fs) back h = absurd (omega (arith, h))
compare_parts (n ∷ ns) (f ∷ fs) back h =
    ap (ordering_then (nat_cmp n f)) (compare_parts ns fs back (omega (arith, h)))
    ∙ sym (then_assoc (nat_cmp n f) (slice_cmp nat_cmp (take (length fs) ns) fs) (slice_cmp nat_cmp (drop (length fs) ns) back))

then_alike : (o a b : Ordering) → is_lt a ≡ is_le b → is_lt (ordering_then o a) ≡ is_le (ordering_then o b)
then_alike Less a b e = refl
then_alike Equal a b e = e
then_alike Greater a b e = refl

-- a name that is shorter than the front goes before where it is no greater than as much of the front
pub compare_short : (name front back : List ℕ) → length name < length front
    → is_lt (slice_cmp nat_cmp name (front ++ back)) ≡ is_le (slice_cmp nat_cmp name (take (length name) front))
compare_short name [] back h = absurd (omega (arith, h))
compare_short [] (f ∷ fs) back h = refl
compare_short (n ∷ ns) (f ∷ fs) back h = then_alike (nat_cmp n f) _ _ (compare_short ns fs back (omega (arith, h)))

neither : (o p : Ordering) → o ≡ ordering_reverse p → is_lt o ≡ false → is_lt p ≡ false → o ≡ Equal
neither Less p e h k = absurd (false≢true (sym h))
neither Equal p e h k = refl
neither Greater Less e h k = absurd (false≢true (sym k))
neither Greater Equal e h k = e
neither Greater Greater e h k = absurd (false≢true (ap is_lt e))

-- names of which neither goes before the other are the same
pub same_name : (x y : List ℕ) → name_goes_before x y ≡ false → name_goes_before y x ≡ false → x ≡ y
same_name x y h k =
    let level = neither _ _ (nat_list_cmp_total.antisymm x y) h k in
    same_text x y (sym (texts_ties x y ∙ ap is_eq level))

not_itself : (x : List ℕ) → name_goes_before x x ≡ false
not_itself [] = refl
not_itself (b ∷ bs) = grind (arith, nat_tests, not_itself bs)

-- a name begins with a front in two parts where it begins with the first and goes on with the second
pub front_of_two : (name front back : List ℕ) → starts_with eqb name (front ++ back) ≡ (starts_with eqb name front && starts_with eqb (drop (length front) name) back)
front_of_two name [] back = refl
front_of_two [] (f ∷ fs) back = refl
front_of_two (n ∷ ns) (f ∷ fs) back = grind (arith, nat_tests, front_of_two ns fs back)

-- a name goes not before its front
pub front_first : (front name : List ℕ) → starts_with eqb name front ≡ true → name_goes_before name front ≡ false
front_first [] [] h = refl
front_first [] (b ∷ bs) h = refl
front_first (f ∷ fs) [] h = absurd (false≢true h)
front_first (f ∷ fs) (b ∷ bs) h =
    let same : f ≡ b = grind (arith, nat_tests) in
    let rest : starts_with eqb bs fs ≡ true = grind (arith, nat_tests) in
    let before = front_first fs bs rest in
    grind (arith, nat_tests)

-- a name between a front and a name that has it has it too
pub front_between : (front x y : List ℕ) → name_goes_before x front ≡ false → name_goes_before y x ≡ false
    → starts_with eqb y front ≡ true → starts_with eqb x front ≡ true
front_between [] x y h k s = refl
front_between (f ∷ fs) [] y h k s = absurd (false≢true (sym h))
front_between (f ∷ fs) (b ∷ bs) [] h k s = absurd (false≢true s)
front_between (f ∷ fs) (b ∷ bs) (d ∷ ds) h k s =
    let same : f ≡ d = grind (arith, nat_tests) in
    let rest : starts_with eqb ds fs ≡ true = grind (arith, nat_tests) in
    let level : f ≡ b = grind (arith, nat_tests) in
    let low : name_goes_before bs fs ≡ false = grind (arith, nat_tests) in
    let high : name_goes_before ds bs ≡ false = grind (arith, nat_tests) in
    let more = front_between fs bs ds low high rest in
    grind (arith, nat_tests)

module _ {X : Type 0} (name : X → List ℕ) (xs : List X) (in_order : IsSortedByKey name (slice_cmp nat_cmp) xs) (key : List ℕ) where
  index_of_lt : (o : Ordering) → is_lt o ≡ true → ordering_index o ≡ 0
  index_of_lt Less h = refl
  index_of_lt Equal h = absurd (false≢true h)
  index_of_lt Greater h = absurd (false≢true h)

  lt_of_index : (o : Ordering) → ordering_index o ≤ 0 → is_lt o ≡ true
  lt_of_index Less h = refl
  lt_of_index Equal h = absurd (omega (arith, h))
  lt_of_index Greater h = absurd (omega (arith, h))

  -- the names that go before a name stand before the others
  pub partitioned : IsPartitionedBy (λ x. name_goes_before (name x) key) xs
  partitioned i j d le within low =
      let rise = searchable_from_sorted nat_list_cmp_total name xs key in_order i j d le within in
      let zero_at = index_of_lt _ low in
      lt_of_index _ (omega (arith, rise, zero_at))

  later : (i j : ℕ) (d : X) → i ≤ j → j < length xs → name_goes_before (name (get_or xs j d)) (name (get_or xs i d)) ≡ false
  later i j d le within = sorted_far _ (ranks_by nat_list_cmp_total name) xs in_order i j d le within

  other_name : (x : List ℕ) → x ≢ key → bytes_eq x key ≡ false
  other_name x ne = by_answer (bytes_eq x key) refl where
    by_answer : (r : Bool) → bytes_eq x key ≡ r → r ≡ false
    by_answer true e = absurd (ne ((bytes_eq-Decides x key).0 e))
    by_answer false e = refl

  module _ (i : ℕ) (d : X) (point : IsPartitionPoint (λ x. name_goes_before (name x) key ≡ true) (λ x. name_goes_before (name x) key ≡ false) xs i) where
    before_differs : (k : ℕ) → k < i → bytes_eq (name (get_or xs k d)) key ≡ false
    before_differs k lt = other_name _ (λ e. false≢true (sym (not_itself key) ∙ ap (λ n. name_goes_before n key) (sym e) ∙ point.0 k d (omega arith) lt))

    -- the first of that name stands at the point
    pub place_here : i < length xs → name (get_or xs i d) ≡ key → position (λ x. bytes_eq (name x) key) xs ≡ Some i
    place_here within e =
        let at = position_or_len_is (λ x. bytes_eq (name x) key) xs i d (omega arith) before_differs (λ _. (bytes_eq-Decides _ key).1 e) in
        rw at (grind (arith, nat_tests))

    after_differs : (i < length xs → name (get_or xs i d) ≢ key) → (k : ℕ) → i ≤ k → k < length xs → name (get_or xs k d) ≢ key
    after_differs other k le within e =
        let here : i < length xs = omega arith in
        other here (same_name _ key (point.1 i d (omega arith) here) (ap (λ n. name_goes_before n (name (get_or xs i d))) (sym e) ∙ later i k d le within))

    -- where another name stands there, none has it
    pub no_place : (i < length xs → name (get_or xs i d) ≢ key) → position (λ x. bytes_eq (name x) key) xs ≡ None
    no_place other =
        let none : (k : ℕ) → k < length xs → bytes_eq (name (get_or xs k d)) key ≡ false = λ k lt. elim (cases_lt k i) [
          | inl l ↦ before_differs k l
          | inr g ↦ other_name _ (after_differs other k g lt)
        ] in
        let at = position_or_len_is (λ x. bytes_eq (name x) key) xs (length xs) d (omega arith) none (λ l. absurd (omega (arith, l))) in
        rw at (grind (arith, nat_tests))

    -- some name has this front where the one at the point has it
    pub front_here : i < length xs → starts_with eqb (name (get_or xs i d)) key ≡ true → list_any (λ x. starts_with eqb (name x) key) xs ≡ true
    front_here within h = list_any_at (λ x. starts_with eqb (name x) key) xs i d within h

    test_false : (b : Bool) → (b ≡ true → ⊥) → b ≡ false
    test_false true h = absurd (h refl)
    test_false false h = refl

    lacks_front : (i < length xs → starts_with eqb (name (get_or xs i d)) key ≡ false) → (k : ℕ) → k < length xs
        → starts_with eqb (name (get_or xs k d)) key ≡ true → ⊥
    lacks_front none k lt h = elim (cases_lt k i) [
      | inl l ↦ false≢true (sym (front_first key _ h) ∙ point.0 k d (omega arith) l)
      | inr g ↦
          let here : i < length xs = omega arith in
          false≢true (sym (none here) ∙ front_between key _ _ (point.1 i d (omega arith) here) (later i k d g lt) h)
    ]

    -- where the one at the point lacks the front, none has it
    pub no_front : (i < length xs → starts_with eqb (name (get_or xs i d)) key ≡ false) → list_any (λ x. starts_with eqb (name x) key) xs ≡ false
    no_front none = list_any_none (λ x. starts_with eqb (name x) key) xs
        (λ k e lt. test_false _ (λ h. lacks_front none k lt (subst (λ x. starts_with eqb (name x) key ≡ true) (get_or_default xs k e d lt) h)))

    -- so the one at the point tells
    pub front_tells : (r : Bool) → i < length xs → r ≡ starts_with eqb (name (get_or xs i d)) key → r ≡ list_any (λ x. starts_with eqb (name x) key) xs
    front_tells true within e = sym (front_here within (sym e))
    front_tells false within e = sym (no_front (λ _. sym e))
