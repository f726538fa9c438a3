-- Sums over views.
use Rattle.std.proofs.Common.{◌≡◌, ◌≢◌, ℕ, zero, suc, ◌+◌, ◌<◌, ◌≤◌, ◌==◌, Bool, true, false, List, [], ◌∷◌, ◌++◌, length, set, Option, Some, None, refl, sym, ap, arith, eq-eqb, ne_eqb}
use mathlib.Core.Option as m
use lib.ListN.{get_elem?}
use Rattle.table_rule.specs.declared.view.View.{View}
use Rattle.table_rule.specs.IdleWords.{bit, bit_at, sum_of, tries}

pub sum_set : (f : View → ℕ) (views : List View) (id : ℕ) (v w : View) → get_elem? views id ≡ m.some v → sum_of f (set views id w) + f v ≡ sum_of f views + f w
sum_set f [] id v w at = absurd (m.some-ne-none v (sym at))
sum_set f (x ∷ xs) zero v w at = let e : f x ≡ f v = ap f (m.some-injective x v at) in omega arith
sum_set f (x ∷ xs) (suc id) v w at = let s = sum_set f xs id v w at in omega arith

pub sum_snoc : (f : View → ℕ) (views : List View) (w : View) → sum_of f (views ++ w ∷ []) ≡ sum_of f views + f w
sum_snoc f [] w = omega arith
sum_snoc f (x ∷ xs) w = let s = sum_snoc f xs w in omega arith

-- where a view keeps its share, the sum stays
pub sum_same : (f : View → ℕ) (views : List View) (id : ℕ) (v w : View) → get_elem? views id ≡ m.some v → f w ≡ f v → sum_of f (set views id w) ≡ sum_of f views
sum_same f views id v w at same = let s = sum_set f views id v w at in omega (arith, same)

pub sum_le : (f g : View → ℕ) (views : List View) → ((id : ℕ) (v : View) → get_elem? views id ≡ m.some v → f v ≤ g v) → sum_of f views ≤ sum_of g views
sum_le f g [] le = omega arith
sum_le f g (x ∷ xs) le = let a = le 0 x refl in let s = sum_le f g xs (λ id v at. le (suc id) v at) in omega arith

pub sum_less : (f g : View → ℕ) (views : List View) (id : ℕ) (v : View) → get_elem? views id ≡ m.some v → f v < g v
    → ((id : ℕ) (v : View) → get_elem? views id ≡ m.some v → f v ≤ g v) → sum_of f views < sum_of g views
sum_less f g [] id v at lt le = absurd (m.some-ne-none v (sym at))
sum_less f g (x ∷ xs) zero v at lt le =
    let e : f x ≡ f v = ap f (m.some-injective x v at) in let e' : g x ≡ g v = ap g (m.some-injective x v at) in
    let s = sum_le f g xs (λ id v at. le (suc id) v at) in omega arith
sum_less f g (x ∷ xs) (suc id) v at lt le =
    let a = le 0 x refl in let s = sum_less f g xs id v at lt (λ id v at. le (suc id) v at) in omega arith

pub sum_has : (f : View → ℕ) (views : List View) (id : ℕ) (v : View) → get_elem? views id ≡ m.some v → f v ≤ sum_of f views
sum_has f [] id v at = absurd (m.some-ne-none v (sym at))
sum_has f (x ∷ xs) zero v at = let e : f x ≡ f v = ap f (m.some-injective x v at) in omega arith
sum_has f (x ∷ xs) (suc id) v at = let s = sum_has f xs id v at in omega arith

pub sum_add : (f g : View → ℕ) (views : List View) → sum_of (λ v. f v + g v) views ≡ sum_of f views + sum_of g views
sum_add f g [] = omega arith
sum_add f g (x ∷ xs) = let t = sum_add f g xs in omega arith

pub sum_zero : (views : List View) → sum_of (λ _. 0) views ≡ 0
sum_zero [] = refl
sum_zero (x ∷ xs) = let t = sum_zero xs in omega arith

bit_le : (b : Bool) → bit b ≤ 1
bit_le true = omega arith
bit_le false = omega arith

bit_at_le : (k : ℕ) (o : Option ℕ) → bit_at k o ≤ 1
bit_at_le k None = omega arith
bit_at_le k (Some j) = bit_le (j == k)

-- each view tries once at most
pub tries_le : (k : ℕ) (views : List View) → sum_of (tries k) views ≤ length views
tries_le k [] = omega arith
tries_le k (x ∷ xs) = let s = tries_le k xs in let b = bit_at_le k x.hand.trying in omega arith

pub bit_self : (k : ℕ) → bit_at k (Some k) ≡ 1
bit_self k = ap bit (eq-eqb k k refl)

pub bit_other : (j k : ℕ) → j ≢ k → bit_at j (Some k) ≡ 0
bit_other j k ne = ap bit (ne_eqb k j (λ e. ne (sym e)))
