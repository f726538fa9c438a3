-- Elements of lists, of their filters and of their maps, and the greatest and the least of some numbers.
use Rattle.std.proofs.Common.{◌≡◌, ℕ, ◌≤◌, Bool, true, false, ◌==◌, nat_lt, List, [], ◌∷◌, map, filter, None, Some, min, max, All, Contains, ◌⊎◌, inl, inr, refl, sym, ◌∙◌, ap, subst, arith}
use Rattle.std.specs.Option.{option_map_or}
use Rattle.std.proofs.lemmas.Bool.{cases_Bool}
use Rattle.std.proofs.lemmas.List.Elements.{All-nil, All-cons, All-head, All-tail, All-weaker, All-contains, All-contains_itself, Contains-append_left, Contains-append_right, Contains-push, Contains-push_cases, Contains-append_cases}
use Rattle.std.proofs.lemmas.Bool.Decides.{nat_tests}
use Rattle.admission.specs.Admission.{greatest, least}

-- ---- elements of a list

in_nothing : {X : Type 0} (x : X) → Contains {X = X} [] x → ⊥
in_nothing x h = omega (arith, h.1)

in_rest : {X : Type 0} (y : X) (xs : List X) (x : X) → Contains xs x → Contains (y ∷ xs) x
in_rest y xs x h = Contains-append_right (y ∷ []) xs x h

in_head : {X : Type 0} (x : X) (xs : List X) → Contains (x ∷ xs) x
in_head x xs = Contains-append_left (x ∷ []) xs x (Contains-push [] x)

in_cases : {X : Type 0} (y : X) (xs : List X) (x : X) → Contains (y ∷ xs) x → (y ≡ x) ⊎ Contains xs x
in_cases y xs x h =
    elim (Contains-append_cases (y ∷ []) xs x h) [
      | inl one ↦ elim (Contains-push_cases [] y x one) [ inl none ↦ absurd (in_nothing x none) | inr e ↦ inl e ]
      | inr rest ↦ inr rest
    ]

-- what stands in a map is made from an element
pub in_map : {X Y : Type 0} (f : X → Y) (xs : List X) (y : Y) → Contains (map f xs) y → (x : X) × Contains xs x × (f x ≡ y)
in_map f [] y h = absurd (in_nothing y h)
in_map f (x ∷ xs) y h =
    elim (in_cases (f x) (map f xs) y h) [
      | inl e ↦ (x, in_head x xs, e)
      | inr rest ↦ let found = in_map f xs y rest in (found.0, in_rest x xs found.0 found.1, found.2)
    ]

-- what a filter keeps stands in the list, and passes the test
pub in_filter : {X : Type 0} (p : X → Bool) (xs : List X) (x : X) → Contains (filter p xs) x → Contains xs x × (p x ≡ true)
in_filter p [] x h = absurd (in_nothing x h)
in_filter {X} p (y ∷ xs) x h =
    let later : Contains (filter p xs) x → Contains (y ∷ xs) x × (p x ≡ true)
    = λ g. let found = in_filter p xs x g in (in_rest y xs x found.0, found.1) in
    elim (cases_Bool (p y)) [
      | inl passes ↦
          elim (in_cases y (filter p xs) x (rw passes at h)) [
            | inl same ↦ (subst (λ z. Contains (y ∷ xs) z) same (in_head y xs), ap p (sym same) ∙ passes)
            | inr rest ↦ later rest
          ]
      | inr fails ↦ later (rw fails at h)
    ]

-- an element that passes the test is kept
in_kept : {X : Type 0} (p : X → Bool) (xs : List X) (x : X) → Contains xs x → p x ≡ true → Contains (filter p xs) x
in_kept p [] x h passes = absurd (in_nothing x h)
in_kept p (y ∷ xs) x h passes =
    let later : Contains xs x → Contains (filter p xs) x = λ rest. in_kept p xs x rest passes in
    elim (cases_Bool (p y)) [
      | inl first ↦ rw first (
          elim (in_cases y xs x h) [
            | inl same ↦ subst (λ z. Contains (y ∷ filter p xs) z) same (in_head y (filter p xs))
            | inr rest ↦ in_rest y (filter p xs) x (later rest)
          ])
      | inr fails ↦ rw fails (
          elim (in_cases y xs x h) [
            | inl same ↦ let e = ap p same in absurd (cc)
            | inr rest ↦ later rest
          ])
    ]

-- what holds of each element that a filter keeps holds of each that passes the test
pub All-kept : {X : Type 0} (p : X → Bool) (P : X → Type 0) (xs : List X) → All P (filter p xs) → All (λ x. p x ≡ true → P x) xs
All-kept {X} p P xs h =
    let by_element : (x : X) → Contains xs x → p x ≡ true → P x
    = λ x listed passes. All-contains P (filter p xs) x h (in_kept p xs x listed passes) in
    All-weaker (Contains xs) (λ x. p x ≡ true → P x) by_element xs (All-contains_itself xs)

-- what holds of each element of a map holds of what each is made from
pub All-made : {X Y : Type 0} (f : X → Y) (P : Y → Type 0) (xs : List X) → All P (map f xs) → All (λ x. P (f x)) xs
All-made f P [] h = All-nil (λ x. P (f x))
All-made f P (x ∷ xs) h =
    All-cons (λ z. P (f z)) x xs (All-head P (f x) (map f xs) h) (All-made f P xs (All-tail P (f x) (map f xs) h))

pub map_of_nothing : {X Y : Type 0} (f : X → Y) (xs : List X) → map f xs ≡ [] → xs ≡ []
map_of_nothing f [] h = refl
map_of_nothing f (x ∷ xs) h = absurd (cc)

-- a filter keeps nothing exactly where no element passes
pub filter-none : {X : Type 0} (p : X → Bool) (xs : List X) → All (λ x. p x ≡ false) xs → filter p xs ≡ []
filter-none p [] h = refl
filter-none p (x ∷ xs) h =
    rw (All-head (λ z. p z ≡ false) x xs h) (filter-none p xs (All-tail (λ z. p z ≡ false) x xs h))

pub none_pass : {X : Type 0} (p : X → Bool) (xs : List X) → filter p xs ≡ [] → All (λ x. p x ≡ false) xs
none_pass p [] h = All-nil (λ x. p x ≡ false)
none_pass p (x ∷ xs) h =
    elim (cases_Bool (p x)) [
      | inl passes ↦ let kept = rw passes at h in absurd (cc)
      | inr fails ↦ All-cons (λ z. p z ≡ false) x xs fails (none_pass p xs (rw fails at h))
    ]

-- ---- the greatest and the least of some numbers

pub greatest_bounds : (ns : List ℕ) → All (λ n. n ≤ greatest ns) ns
greatest_bounds [] = All-nil (λ n. n ≤ greatest [])
greatest_bounds (n ∷ ns) =
    All-cons (λ m. m ≤ greatest (n ∷ ns)) n ns (omega arith)
    (All-weaker (λ m. m ≤ greatest ns) (λ m. m ≤ greatest (n ∷ ns)) (λ m h. omega arith) ns (greatest_bounds ns))

in_order : (a b : ℕ) → (a ≤ b) ⊎ (b ≤ a)
in_order a b =
    elim (cases_Bool (nat_lt a b)) [ inl below ↦ inl (grind (arith, nat_tests)) | inr above ↦ inr (grind (arith, nat_tests)) ]

pub equal_test : (a b : ℕ) → a ≡ b → (a == b) ≡ true
equal_test a b h = grind (arith, nat_tests)

pub test_equal : (a b : ℕ) → (a == b) ≡ true → a ≡ b
test_equal a b h = grind (arith, nat_tests)

pub greatest_is_in : (n : ℕ) (ns : List ℕ) → Contains (n ∷ ns) (greatest (n ∷ ns))
greatest_is_in n [] = let e : n ≡ max n 0 = omega arith in subst (λ m. Contains (n ∷ []) m) e (in_head n [])
greatest_is_in n (m ∷ ns) =
    elim (in_order n (greatest (m ∷ ns))) [
      | inl below ↦
          let e : greatest (m ∷ ns) ≡ max n (greatest (m ∷ ns)) = omega arith in
          subst (λ k. Contains (n ∷ m ∷ ns) k) e (in_rest n (m ∷ ns) (greatest (m ∷ ns)) (greatest_is_in m ns))
      | inr above ↦
          let e : n ≡ max n (greatest (m ∷ ns)) = omega arith in
          subst (λ k. Contains (n ∷ m ∷ ns) k) e (in_head n (m ∷ ns))
    ]

-- what `least` gives is in the list, and no number of the list is below it
pub least_is_least : (ns : List ℕ) (k : ℕ) → least ns ≡ Some k → Contains ns k × All (λ n. k ≤ n) ns
least_is_least [] k h = absurd (cc)
least_is_least (n ∷ []) k h =
    let e : n ≡ k = cc in
    (subst (λ z. Contains (n ∷ []) z) e (in_head n []), All-cons (λ z. k ≤ z) n [] (omega arith) (All-nil (λ z. k ≤ z)))
least_is_least (n ∷ m ∷ ns) k h =
    let j : ℕ = option_map_or (min m) (least ns) m in
    let is_min : min n j ≡ k = cc in
    let rest = least_is_least (m ∷ ns) j refl in (
      elim (in_order n j) [
        | inl below ↦
            let e : n ≡ k = omega arith in
            subst (λ z. Contains (n ∷ m ∷ ns) z) e (in_head n (m ∷ ns))
        | inr above ↦
            let e : j ≡ k = omega arith in
            subst (λ z. Contains (n ∷ m ∷ ns) z) e (in_rest n (m ∷ ns) j rest.0)
      ],
      All-cons (λ z. k ≤ z) n (m ∷ ns) (omega arith)
          (All-weaker (λ z. j ≤ z) (λ z. k ≤ z) (λ z above. omega arith) (m ∷ ns) rest.1),
    )

pub least_of_nothing : (ns : List ℕ) → least ns ≡ None → ns ≡ []
least_of_nothing [] h = refl
least_of_nothing (n ∷ ns) h = absurd (cc)
