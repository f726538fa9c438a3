-- The choice of a child: the number that `pick_of` gives is picked, no other number is, and a walk over
-- the list that keeps the best child so far ends at it.
use Rattle.std.proofs.Common.{◌≡◌, ℕ, ◌+◌, ◌<◌, ◌≤◌, Bool, true, false, ◌==◌, List, [], ◌∷◌, ◌++◌, map, filter, length, take, get_or, Option, None, Some, All, Contains, ◌↔◌, refl, sym, ◌∙◌, ap, subst, arith}
use Rattle.std.specs.Option.{option_map_or, option_map}
use Rattle.std.proofs.lemmas.Bool.{and_parts, and_from}
use Rattle.std.proofs.lemmas.Bool.Decides.{nat_tests}
use Rattle.std.proofs.lemmas.List.{take_more}
pub use Rattle.std.proofs.lemmas.List.{take_all}
use Rattle.std.proofs.lemmas.List.Elements.{All-weaker, All-push, All-contains, All-contains_itself, Contains-append_left, Contains-push}
use Rattle.admission.specs.declared.ChildCount.{ChildCount}
use Rattle.admission.specs.Admission.{has_room, is_candidate, candidates, greatest, most_idle, pick_of}
use Rattle.admission.specs.Picked.{IsPicked}
use Rattle.admission.specs.PickedInside.{goes_before}
use Rattle.admission.proofs.ListLemmas.{in_map, in_filter, All-kept, All-made, filter-none, none_pass, map_of_nothing, greatest_bounds, greatest_is_in, least_is_least, least_of_nothing, equal_test, test_equal}

-- ---- which of two children goes before the other

not_idler : (c b : ChildCount) → goes_before c b ≡ false → c.idle ≤ b.idle
not_idler c b h = grind (arith, nat_tests)

not_lower : (c b : ChildCount) → goes_before c b ≡ false → c.idle ≡ b.idle → b.child ≤ c.child
not_lower c b h e = grind (arith, nat_tests)

not_before : (c b : ChildCount) → c.idle ≤ b.idle → (c.idle ≡ b.idle → b.child ≤ c.child) → goes_before c b ≡ false
not_before c b fewer lower = grind (arith, nat_tests)

not_before_itself : (c : ChildCount) → goes_before c c ≡ false
not_before_itself c = grind (arith, nat_tests)

not_before_better : (x b c : ChildCount) → goes_before x b ≡ false → goes_before c b ≡ true → goes_before x c ≡ false
not_before_better x b c h better = grind (arith, nat_tests)

-- ---- the best child of a list

-- b is in the list, runs and has room, and no other that does goes before it
pub record IsBest (cs : List ChildCount) (b : ChildCount) : Type 0 where
  pub listed : Contains cs b
  pub candidate : is_candidate b ≡ true
  pub first : All (λ c. is_candidate c ≡ true → goes_before c b ≡ false) cs

-- the number of the best child is picked
pub picked_best : (cs : List ChildCount) (b : ChildCount) → IsBest cs b → IsPicked cs b.child
picked_best cs b best =
    let parts = and_parts b.running (has_room b.t b.factor b.idle b.count) best.candidate in
    record {
      child = b;
      listed = best.listed;
      numbered = refl;
      runs = parts.0;
      room = parts.1;
      none_idler =
          All-weaker (λ c. is_candidate c ≡ true → goes_before c b ≡ false) (λ c. is_candidate c ≡ true → c.idle ≤ b.idle)
          (λ c first test. not_idler c b (first test)) cs best.first;
      none_lower =
          All-weaker (λ c. is_candidate c ≡ true → goes_before c b ≡ false) (λ c. is_candidate c ≡ true → c.idle ≡ b.idle → b.child ≤ c.child)
          (λ c first test as_many. not_lower c b (first test) as_many) cs best.first;
    }

-- a candidate with most idle workers, and of those the lowest number, is the best
best_of_idlest : (cs : List ChildCount) (b : ChildCount) → Contains cs b → is_candidate b ≡ true → b.idle ≡ most_idle cs → All (λ c. b.child ≤ c.child) (filter (λ c. c.idle == most_idle cs) (candidates cs)) → IsBest cs b
best_of_idlest cs b listed candidate most lowest =
    let idle_bounds = All-made (λ (c : ChildCount). c.idle) (λ n. n ≤ most_idle cs) (candidates cs) (greatest_bounds (map (λ c. c.idle) (candidates cs))) in
    let number_bounds = All-kept (λ c. c.idle == most_idle cs) (λ c. b.child ≤ c.child) (candidates cs) lowest in
    let first : (c : ChildCount) → Contains (candidates cs) c → goes_before c b ≡ false
    = λ c listed.
    let fewer = All-contains (λ c. c.idle ≤ most_idle cs) (candidates cs) c idle_bounds listed in
    let lower = All-contains (λ c. (c.idle == most_idle cs) ≡ true → b.child ≤ c.child) (candidates cs) c number_bounds listed in
    not_before c b (omega arith) (λ as_many. lower (equal_test c.idle (most_idle cs) (as_many ∙ most))) in
    record {
      listed = listed;
      candidate = candidate;
      first = All-kept is_candidate (λ c. goes_before c b ≡ false) cs (All-weaker (Contains (candidates cs)) (λ c. goes_before c b ≡ false) first (candidates cs) (All-contains_itself (candidates cs)));
    }

-- the number that `pick_of` gives is the best child's
best_if_some : (cs : List ChildCount) (k : ℕ) → pick_of cs ≡ Some k → (b : ChildCount) × IsBest cs b × (b.child ≡ k)
best_if_some cs k h =
    let is_idlest : ChildCount → Bool = λ c. c.idle == most_idle cs in
    let idlest : List ChildCount = filter is_idlest (candidates cs) in
    let least_number = least_is_least (map (λ c. c.child) idlest) k h in
    let found = in_map (λ (c : ChildCount). c.child) idlest k least_number.0 in
    let among = in_filter is_idlest (candidates cs) found.0 found.1 in
    let listed = in_filter is_candidate cs found.0 among.0 in
    let lowest = All-made (λ (c : ChildCount). c.child) (λ n. (found.0).child ≤ n) idlest (subst (λ m. All (λ n. m ≤ n) (map (λ c. c.child) idlest)) (sym found.2) least_number.1) in
    (found.0, best_of_idlest cs found.0 listed.0 listed.1 (test_equal (found.0).idle (most_idle cs) among.1) lowest, found.2)

-- some child of a list has most idle workers, if there is one at all
some_is_idlest : (xs : List ChildCount) → All (λ c. (c.idle == greatest (map (λ c. c.idle) xs)) ≡ false) xs → xs ≡ []
some_is_idlest [] h = refl
some_is_idlest (x ∷ xs) h =
    let most : ℕ = greatest (map (λ (c : ChildCount). c.idle) (x ∷ xs)) in
    let found = in_map (λ (c : ChildCount). c.idle) (x ∷ xs) most (greatest_is_in x.idle (map (λ c. c.idle) xs)) in
    let passes = equal_test (found.0).idle most found.2 in
    let fails = All-contains (λ c. (c.idle == most) ≡ false) (x ∷ xs) found.0 h found.1 in
    absurd (cc)

-- where `pick_of` gives no number, no child runs and has room
no_candidates : (cs : List ChildCount) → pick_of cs ≡ None → candidates cs ≡ []
no_candidates cs none =
    let is_idlest : ChildCount → Bool = λ c. c.idle == most_idle cs in
    let idlest : List ChildCount = filter is_idlest (candidates cs) in
    let nothing = map_of_nothing (λ (c : ChildCount). c.child) idlest (least_of_nothing (map (λ c. c.child) idlest) none) in
    some_is_idlest (candidates cs) (none_pass is_idlest (candidates cs) nothing)

-- ---- the number that `pick_of` gives

pub picked_if_some : (cs : List ChildCount) (k : ℕ) → pick_of cs ≡ Some k → IsPicked cs k
picked_if_some cs k h =
    let best = best_if_some cs k h in
    subst (IsPicked cs) best.2 (picked_best cs best.0 best.1)

pub none_iff_no_candidates : (cs : List ChildCount) → (pick_of cs ≡ None) ↔ (candidates cs ≡ [])
none_iff_no_candidates cs = (no_candidates cs, λ none. rw none refl)

-- no other number than the one that `pick_of` gives is picked
pub pick_of_picked : (cs : List ChildCount) (k : ℕ) → IsPicked cs k → pick_of cs ≡ Some k
pick_of_picked cs k picked = by_number (pick_of cs) refl
  where
    by_number : (o : Option ℕ) → pick_of cs ≡ o → o ≡ Some k
    by_number None none =
        let fails = All-contains (λ c. is_candidate c ≡ false) cs picked.child (none_pass is_candidate cs (no_candidates cs none)) picked.listed in
        let passes = and_from _ _ picked.runs picked.room in
        absurd (cc)
    by_number (Some j) some =
        let other = picked_if_some cs j some in
        let this_passes = and_from _ _ picked.runs picked.room in
        let other_passes = and_from _ _ other.runs other.room in
        let below = All-contains (λ c. is_candidate c ≡ true → c.idle ≤ (picked.child).idle) cs other.child picked.none_idler other.listed other_passes in
        let above = All-contains (λ c. is_candidate c ≡ true → c.idle ≤ (other.child).idle) cs picked.child other.none_idler picked.listed this_passes in
        let as_many : (other.child).idle ≡ (picked.child).idle = omega arith in
        let lower = All-contains (λ c. is_candidate c ≡ true → c.idle ≡ (picked.child).idle → k ≤ c.child) cs other.child picked.none_lower other.listed other_passes as_many in
        let higher = All-contains (λ c. is_candidate c ≡ true → c.idle ≡ (other.child).idle → j ≤ c.child) cs picked.child other.none_lower picked.listed this_passes (sym as_many) in
        let same : j ≡ k = omega (arith, other.numbered, picked.numbered) in
        ap Some same

-- ---- one more child at the end of the list

-- best is the best child of the list, or None where no child of it runs and has room
abbrev pub BestSoFar : List ChildCount → Option ChildCount → Type 0
BestSoFar cs None = All (λ c. is_candidate c ≡ false) cs
BestSoFar cs (Some b) = IsBest cs b

-- a candidate that goes before the best so far is the best
best_taken : (cs : List ChildCount) (c : ChildCount) (best : Option ChildCount) → BestSoFar cs best → is_candidate c ≡ true → option_map_or (goes_before c) best true ≡ true → BestSoFar (cs ++ c ∷ []) (Some c)
best_taken cs c best so_far candidate before = record {
  listed = Contains-push cs c;
  candidate = candidate;
  first = All-push (λ x. is_candidate x ≡ true → goes_before x c ≡ false) cs c (others best so_far before) (λ _. not_before_itself c);
}
  where
    others : (o : Option ChildCount) → BestSoFar cs o → option_map_or (goes_before c) o true ≡ true → All (λ x. is_candidate x ≡ true → goes_before x c ≡ false) cs
    others None none before =
        All-weaker (λ x. is_candidate x ≡ false) (λ x. is_candidate x ≡ true → goes_before x c ≡ false) (λ x no yes. absurd (cc)) cs none
    others (Some b) best before =
        All-weaker (λ x. is_candidate x ≡ true → goes_before x b ≡ false) (λ x. is_candidate x ≡ true → goes_before x c ≡ false)
        (λ x first test. not_before_better x b c (first test) before) cs best.first

-- a child that doesn't run or has no room leaves the best as it is
best_left : (cs : List ChildCount) (c : ChildCount) (best : Option ChildCount) → BestSoFar cs best → is_candidate c ≡ false → BestSoFar (cs ++ c ∷ []) best
best_left cs c None none fails = All-push (λ x. is_candidate x ≡ false) cs c none fails
best_left cs c (Some b) best fails = record {
  listed = Contains-append_left cs (c ∷ []) b best.listed;
  candidate = best.candidate;
  first = All-push (λ x. is_candidate x ≡ true → goes_before x b ≡ false) cs c best.first (λ test. absurd (cc));
}

-- and so does one that doesn't go before it
best_kept : (cs : List ChildCount) (c : ChildCount) (best : Option ChildCount) → BestSoFar cs best → option_map_or (goes_before c) best true ≡ false → BestSoFar (cs ++ c ∷ []) best
best_kept cs c None none behind = absurd (cc)
best_kept cs c (Some b) best behind = record {
  listed = Contains-append_left cs (c ∷ []) b best.listed;
  candidate = best.candidate;
  first = All-push (λ x. is_candidate x ≡ true → goes_before x b ≡ false) cs c best.first (λ _. behind);
}

-- the same three, at the child at i of a walk over the list
pub taken_at : (cs : List ChildCount) (i : ℕ) (d : ChildCount) (best : Option ChildCount) → i < length cs → BestSoFar (take i cs) best → is_candidate (get_or cs i d) ≡ true → option_map_or (goes_before (get_or cs i d)) best true ≡ true → BestSoFar (take (i + 1) cs) (Some (get_or cs i d))
taken_at cs i d best within so_far candidate before =
    rw (take_more cs i d within) (best_taken (take i cs) (get_or cs i d) best so_far candidate before)

pub left_at : (cs : List ChildCount) (i : ℕ) (d : ChildCount) (best : Option ChildCount) → i < length cs → BestSoFar (take i cs) best → is_candidate (get_or cs i d) ≡ false → BestSoFar (take (i + 1) cs) best
left_at cs i d best within so_far fails = rw (take_more cs i d within) (best_left (take i cs) (get_or cs i d) best so_far fails)

pub kept_at : (cs : List ChildCount) (i : ℕ) (d : ChildCount) (best : Option ChildCount) → i < length cs → BestSoFar (take i cs) best → option_map_or (goes_before (get_or cs i d)) best true ≡ false → BestSoFar (take (i + 1) cs) best
kept_at cs i d best within so_far behind = rw (take_more cs i d within) (best_kept (take i cs) (get_or cs i d) best so_far behind)

-- ---- the best of the whole list

-- its number is the one that `pick_of` gives
pub number_of_best : (cs : List ChildCount) (best : Option ChildCount) → BestSoFar cs best → option_map (λ c. c.child) best ≡ pick_of cs
number_of_best cs None none = sym ((none_iff_no_candidates cs).1 (filter-none is_candidate cs none))
number_of_best cs (Some b) best = sym (pick_of_picked cs b.child (picked_best cs b best))

-- what the proof of `pick` goes by
pub ruleset pick_steps = (taken_at, left_at, kept_at, number_of_best, take_all)
