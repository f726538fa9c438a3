-- A list that is filled up with the numbers of a span, one by one.
use Rattle.std.proofs.Common.{◌≡◌, ℕ, ◌==◌, ◌+◌, ◌≤◌, Bool, true, false, ◌&&◌, cond, if◌then◌else◌, nat_le, nat_lt, inl, inr, List, [], ◌∷◌, ◌++◌, length, count_by, refl, ap, eqb-true, arith}
use Rattle.std.proofs.lemmas.Bool.Decides.{nat_tests}
use Rattle.std.proofs.lemmas.List.Sums.{count_by-le-length, sum_by-append, sum_by-cons}
use Rattle.socket_links.specs.EventsInside.{has_slot}
use Rattle.socket_links.proofs.EventLemmas.{or_cases}

-- the number is of the span
abbrev pub is_between : ℕ → ℕ → ℕ → Bool
is_between low high x = nat_le low x && nat_lt x high

-- 1 where the number is of the span, and else 0
abbrev weight : ℕ → ℕ → ℕ → ℕ
weight low high x = cond (is_between low high x) 1 0

-- how many numbers of the span the list has
abbrev pub filled : ℕ → ℕ → List ℕ → ℕ
filled low high xs = count_by (is_between low high) xs

filled_cons : (low high x : ℕ) (xs : List ℕ) → filled low high (x ∷ xs) ≡ weight low high x + filled low high xs
filled_cons low high x xs = sum_by-cons (weight low high) x xs

weight_more : (low high x : ℕ) → weight low high x ≤ weight low (high + 1) x
weight_more low high x = grind (arith, nat_tests)

weight_outside : (low high : ℕ) → weight low high high ≡ 0
weight_outside low high = grind (arith, nat_tests)

weight_last : (low high : ℕ) → low ≤ high → weight low (high + 1) high ≡ 1
weight_last low high h = grind (arith, nat_tests)

filled_wider : (low high : ℕ) (xs : List ℕ) → filled low high xs ≤ filled low (high + 1) xs
filled_wider low high [] = omega arith
filled_wider low high (x ∷ xs) =
    omega (arith, filled_cons low high x xs, filled_cons low (high + 1) x xs, weight_more low high x, filled_wider low high xs)

-- the list has the next number
filled_has : (low high : ℕ) (xs : List ℕ) → low ≤ high → has_slot xs high ≡ true → filled low high xs + 1 ≤ filled low (high + 1) xs
filled_has low high [] h has = absurd (cc)
filled_has low high (x ∷ xs) h has = elim (or_cases (x == high) (has_slot xs high) has) [
  | inl same ↦
      let is : x ≡ high = eqb-true x high same in
      omega (
        arith,
        filled_cons low high x xs,
        filled_cons low (high + 1) x xs,
        filled_wider low high xs,
        ap (weight low high) is,
        ap (weight low (high + 1)) is,
        weight_outside low high,
        weight_last low high h,
      )
  | inr behind ↦
      omega (arith, filled_cons low high x xs, filled_cons low (high + 1) x xs, weight_more low high x, filled_has low high xs h behind)
]

filled_behind : (low high : ℕ) (xs : List ℕ) → low ≤ high → filled low high xs + 1 ≤ filled low (high + 1) (xs ++ high ∷ [])
filled_behind low high xs h =
    omega (
      arith,
      sum_by-append (weight low (high + 1)) xs (high ∷ []),
      filled_cons low (high + 1) high [],
      filled_wider low high xs,
      weight_last low high h,
    )

filled_by : (low high : ℕ) (xs : List ℕ) (has : Bool) → has_slot xs high ≡ has → low ≤ high
    → filled low high xs + 1 ≤ filled low (high + 1) (if has then xs else xs ++ high ∷ [])
filled_by low high xs true is h = filled_has low high xs h is
filled_by low high xs false is h = filled_behind low high xs h

-- the next number was given, unless it was there
pub filled_more : (low high : ℕ) (old new : List ℕ) → low ≤ high → new ≡ (if has_slot old high then old else old ++ high ∷ [])
    → high ≤ low + filled low high old → high + 1 ≤ low + filled low (high + 1) new
filled_more low high old new h is so_far =
    omega (arith, filled_by low high old (has_slot old high) refl h, ap (filled low (high + 1)) is, so_far)

-- all were given
pub filled_full : (low high most : ℕ) (xs : List ℕ) → high ≤ low + filled low high xs → low + most ≤ high → length xs ≤ most → length xs ≡ most
filled_full low high most xs all span few = omega (arith, count_by-le-length (is_between low high) xs, all, span, few)
