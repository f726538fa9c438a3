-- What a change of one item of a list does to the items, and to how many of them pass a test.
use Rattle.std.proofs.Common.{◌≡◌, ◌⊎◌, inl, inr, ℕ, zero, suc, ◌+◌, ◌≤◌, Bool, true, false, cond, ◌||◌, List, [], ◌∷◌, count_by, Some, slice_get, refl, sym, ap, subst, ◌∙◌, arith}
use Rattle.std.specs.List.{list_any}
use Rattle.std.proofs.lemmas.List.Sums.{sum_by-cons}
use Rattle.conn_machine.specs.Lists.{update}

-- an item of the changed list is what the change made, in its place, or an old one
abbrev pub IsUpdated : {X : Type 0} → List X → ℕ → X → ℕ → X → Type 0
IsUpdated xs i x' j y = ((j ≡ i) × (y ≡ x')) ⊎ (slice_get xs j ≡ Some y)

-- one place further
updated_further : {X : Type 0} (z : X) (xs : List X) (i j : ℕ) (x' y : X) → IsUpdated xs i x' j y → IsUpdated (z ∷ xs) (suc i) x' (suc j) y
updated_further z xs i j x' y (inl here) = inl (ap suc here.0, here.1)
updated_further z xs i j x' y (inr old) = inr old

-- each item of the changed list is so
pub get_update : {X : Type 0} (xs : List X) (i j : ℕ) (x y : X) (change : X → X) → slice_get xs i ≡ Some x
    → slice_get (update xs i change) j ≡ Some y → IsUpdated xs i (change x) j y
get_update [] i j x y change is got = inr got
get_update (z ∷ xs) zero zero x y change is got =
    let e : z ≡ x = cc in
    let e' : change z ≡ y = cc in
    inl (refl, sym e' ∙ ap change e)
get_update (z ∷ xs) zero (suc j) x y change is got = inr got
get_update (z ∷ xs) (suc i) zero x y change is got = inr got
get_update (z ∷ xs) (suc i) (suc j) x y change is got =
    updated_further z xs i j (change x) y (get_update xs i j x y change is got)

-- the changed item stands in its place
pub get_changed : {X : Type 0} (xs : List X) (i : ℕ) (x : X) (change : X → X) → slice_get xs i ≡ Some x
    → slice_get (update xs i change) i ≡ Some (change x)
get_changed [] i x change is = absurd (cc)
get_changed (z ∷ xs) zero x change is =
    let e : z ≡ x = cc in
    ap (λ y. Some (change y)) e
get_changed (z ∷ xs) (suc i) x change is = get_changed xs i x change is

-- a count of one more item
pub count_cons : {X : Type 0} (p : X → Bool) (x : X) (xs : List X) → count_by p (x ∷ xs) ≡ cond (p x) 1 0 + count_by p xs
count_cons p x xs = sum_by-cons (λ y. cond (p y) 1 0) x xs

-- a test counts one at most
test_le_one : (b : Bool) → cond b 1 0 ≤ 1
test_le_one true = omega arith
test_le_one false = omega arith

-- and no more than a test that passes where it does
pub test_le : (b a : Bool) → (b ≡ true → a ≡ true) → cond b 1 0 ≤ cond a 1 0
test_le true a passes = rw (passes refl) (omega arith)
test_le false true passes = omega arith
test_le false false passes = omega arith

-- no more items pass where the changed one passes only if it did before
pub count_update_kept : {X : Type 0} (p : X → Bool) (xs : List X) (i : ℕ) (x : X) (change : X → X) → slice_get xs i ≡ Some x
    → (p (change x) ≡ true → p x ≡ true) → count_by p (update xs i change) ≤ count_by p xs
count_update_kept p [] i x change is passes = omega arith
count_update_kept p (z ∷ xs) zero x change is passes =
    let e : x ≡ z = cc in
    let here = test_le (p (change x)) (p x) passes in
    let here' : cond (p (change z)) 1 0 ≤ cond (p z) 1 0 = subst (λ y. cond (p (change y)) 1 0 ≤ cond (p y) 1 0) e here in
    rw (count_cons p (change z) xs, count_cons p z xs) (omega (arith, here'))
count_update_kept p (z ∷ xs) (suc i) x change is passes =
    rw (count_cons p z (update xs i change), count_cons p z xs) (omega (arith, count_update_kept p xs i x change is passes))

-- one more item passes at most
pub count_update_more : {X : Type 0} (p : X → Bool) (xs : List X) (i : ℕ) (change : X → X)
    → count_by p (update xs i change) ≤ count_by p xs + 1
count_update_more p [] i change = omega arith
count_update_more p (z ∷ xs) zero change =
    rw (count_cons p (change z) xs, count_cons p z xs) (omega (arith, test_le_one (p (change z))))
count_update_more p (z ∷ xs) (suc i) change =
    rw (count_cons p z (update xs i change), count_cons p z xs) (omega (arith, count_update_more p xs i change))

-- no more items pass, or one more where there is room
abbrev pub HasRoom : Type 0 → ℕ → ℕ → Type 0
HasRoom Room old new = (new ≤ old) ⊎ (Room × (new ≤ old + 1))

-- so it is, by whether the changed item passes
room_by : {X : Type 0} (p : X → Bool) (xs : List X) (i : ℕ) (x : X) (change : X → X) (Room : Type 0) (b : Bool) → slice_get xs i ≡ Some x
    → p (change x) ≡ b → (b ≡ true → (p x ≡ true) ⊎ Room) → HasRoom Room (count_by p xs) (count_by p (update xs i change))
room_by p xs i x change Room true is test room =
    elim (room refl) [
      | inl passed ↦ inl (count_update_kept p xs i x change is (λ h. passed))
      | inr more ↦ inr (more, count_update_more p xs i change)
    ]
room_by p xs i x change Room false is test room =
    inl (count_update_kept p xs i x change is (λ h. absurd (cc)))

-- so it is where the changed item passes only if it did before, or if there is room for it
pub count_update : {X : Type 0} (p : X → Bool) (xs : List X) (i : ℕ) (x : X) (change : X → X) (Room : Type 0) → slice_get xs i ≡ Some x
    → (p (change x) ≡ true → (p x ≡ true) ⊎ Room) → HasRoom Room (count_by p xs) (count_by p (update xs i change))
count_update p xs i x change Room is room = room_by p xs i x change Room (p (change x)) is refl room

-- where no item passes, both parts of the test of the list fail
either_false : (a b : Bool) → (a || b) ≡ false → (a ≡ false) × (b ≡ false)
either_false false false none = (refl, refl)
either_false false true none = absurd (cc)
either_false true b none = absurd (cc)

-- no item passes where none did and the changed one doesn't
pub none_update : {X : Type 0} (p : X → Bool) (xs : List X) (i : ℕ) (x : X) (change : X → X) → slice_get xs i ≡ Some x
    → p (change x) ≡ false → list_any p xs ≡ false → list_any p (update xs i change) ≡ false
none_update p [] i x change is fails none = refl
none_update p (z ∷ xs) zero x change is fails none =
    let e : x ≡ z = cc in
    let fails' : p (change z) ≡ false = subst (λ y. p (change y) ≡ false) e fails in
    rw fails' ((either_false (p z) (list_any p xs) none).1)
none_update p (z ∷ xs) (suc i) x change is fails none =
    let both = either_false (p z) (list_any p xs) none in
    rw both.0 (none_update p xs i x change is fails both.1)
