-- The walk back along a ring: where it stands, and that it comes to an end.
use Rattle.std.proofs.Common.{◌≡◌, ℕ, zero, suc, ◌+◌, ◌<◌, ◌≤◌, inl, inr, Bool, true, false, cond, List, length, Option, Some, None, nat_lt, slice_get, refl, sym, ap, subst, ◌∙◌, arith}
use Rattle.std.specs.Bool.{OnTrue}
use Rattle.std.proofs.lemmas.Bool.{cases_lt, lt-ltb, le-ltb}
use Rattle.std.proofs.lemmas.Option.{none-some, slice_get-get_or, slice_get_past}
use Rattle.timeout_queues.specs.Waiting.{ParkedName}
use Rattle.timeout_queues.specs.RingsInside.{by_kind, ring_of, ring_at, due_of, due_at, place_at, IsRings, IsBack, IsDueFrom}

-- ## Where it stands

-- it begins at the end of the ring
pub back_first : (slots : List (Option ParkedName)) (before behind : List ℕ) (head deadline : ℕ) → IsRings by_kind slots before behind →
    length slots ≤ head → head < length slots + 5 → IsBack slots behind head deadline (place_at before head)
back_first slots before behind head deadline r above below =
    let l = r.linked head below in
    let past = slice_get_past slots head above in record {
      within = l.before_within;
      ring = l.ring ∙ ap (λ o. ring_of by_kind slots head o) past;
      later = λ q at. absurd (none-some (Some q) (sym past ∙ ap (λ i. slice_get slots i) (sym l.forth) ∙ at));
    }

-- and goes on while the place is due after it
pub back_more : (slots : List (Option ParkedName)) (before behind : List ℕ) (head deadline place : ℕ) → IsRings by_kind slots before behind →
    IsBack slots behind head deadline place → deadline < due_at by_kind slots place → IsBack slots behind head deadline (place_at before place)
back_more slots before behind head deadline place r at late =
    let l = r.linked place at.within in record {
      within = l.before_within;
      ring = l.ring ∙ at.ring;
      later = λ q there.
          let same : due_at by_kind slots place ≡ q.deadline = ap (due_of by_kind) (ap (λ i. slice_get slots i) (sym l.forth) ∙ there) in
          omega (arith, late, same);
    }

-- a place of the ring does where what stands behind it is due at or after the deadline
pub back_here : (slots : List (Option ParkedName)) (behind : List ℕ) (head deadline place next : ℕ) (due : Bool) → place < length slots + 5 →
    ring_at by_kind slots place ≡ Some head → next ≡ place_at behind place → OnTrue due (IsDueFrom slots deadline next) →
    OnTrue due (IsBack slots behind head deadline place)
back_here slots behind head deadline place next true within ring is from =
    record { within = within; ring = ring; later = subst (IsDueFrom slots deadline) is from }
back_here slots behind head deadline place next false within ring is from = tt

-- a place that is due after some moment is a slot
pub due_within : (slots : List (Option ParkedName)) (deadline place : ℕ) → deadline < due_at by_kind slots place → place < length slots
due_within slots deadline place late = elim (cases_lt place (length slots)) [
  | inl under ↦ under
  | inr over ↦
      let none : due_at by_kind slots place ≡ 0 = ap (due_of by_kind) (slice_get_past slots place over) in
      omega (arith, late, none)
]

-- ## Its end

-- how many steps back lead from a place to the head of its ring, counted up to a bound
abbrev pub steps_back : ℕ → List ℕ → ℕ → ℕ → ℕ
steps_back n before zero i = 0
steps_back n before (suc k) i = cond (nat_lt i n) (suc (steps_back n before k (place_at before i))) 0

-- how many of the first n places have a rank below this one
abbrev below : (ℕ → ℕ) → ℕ → ℕ → ℕ
below rank r zero = 0
below rank r (suc m) = below rank r m + cond (nat_lt (rank m) r) 1 0

below_few : (rank : ℕ → ℕ) (r n : ℕ) → below rank r n ≤ n
below_few rank r zero = omega arith
below_few rank r (suc m) = elim (cases_lt (rank m) r) [
  | inl under ↦ rw (lt-ltb (rank m) r under) (omega (arith, below_few rank r m))
  | inr over ↦ rw (le-ltb (rank m) r over) (omega (arith, below_few rank r m))
]

below_more : (rank : ℕ → ℕ) (r t n : ℕ) → r ≤ t → below rank r n ≤ below rank t n
below_more rank r t zero h = omega arith
below_more rank r t (suc m) h = elim (cases_lt (rank m) r) [
  | inl under ↦ rw (lt-ltb (rank m) r under, lt-ltb (rank m) t (omega arith)) (omega (arith, below_more rank r t m h))
  | inr over ↦ rw (le-ltb (rank m) r over) (omega (arith, below_more rank r t m h))
]

below_less : (rank : ℕ → ℕ) (p t n : ℕ) → p < n → rank p < t → below rank (rank p) n < below rank t n
below_less rank p t zero h less = absurd (omega arith)
below_less rank p t (suc m) h less = elim (cases_lt p m) [
  | inl before ↦ elim (cases_lt (rank m) (rank p)) [
    | inl under ↦
        rw (lt-ltb (rank m) (rank p) under, lt-ltb (rank m) t (omega arith)) (omega (arith, below_less rank p t m before less))
    | inr over ↦ rw (le-ltb (rank m) (rank p) over) (omega (arith, below_less rank p t m before less))
  ]
  | inr after ↦
      let same : p ≡ m = omega arith in
      let more = below_more rank (rank p) t m (omega arith) in
      rw (← same, le-ltb (rank p) (rank p) (omega arith), lt-ltb (rank p) t less) (omega (arith, rw (← same) at more))
]

-- a rank of slots that is at most n + 1, and 0 of the heads
abbrev low_rank : (ℕ → ℕ) → ℕ → ℕ → ℕ
low_rank rank n i = cond (nat_lt i n) (suc (below rank (rank i) n)) 0

low_few : (rank : ℕ → ℕ) (n i : ℕ) → low_rank rank n i ≤ n + 1
low_few rank n i = elim (cases_lt i n) [
  | inl under ↦ rw (lt-ltb i n under) (omega (arith, below_few rank (rank i) n))
  | inr over ↦ rw (le-ltb i n over) (omega arith)
]

low_falls : (rank : ℕ → ℕ) (n p i : ℕ) → i < n → rank p < rank i → low_rank rank n p < low_rank rank n i
low_falls rank n p i h less = elim (cases_lt p n) [
  | inl under ↦ rw (lt-ltb p n under, lt-ltb i n h) (omega (arith, below_less rank p (rank i) n under less))
  | inr over ↦ rw (le-ltb p n over, lt-ltb i n h) (omega arith)
]

module _ (slots : List (Option ParkedName)) (before behind : List ℕ) (r : IsRings by_kind slots before behind) (head : ℕ) where
  -- the rank falls from a slot of a ring to the place before it
  falls : (i : ℕ) → i < length slots → ring_at by_kind slots i ≡ Some head →
      low_rank r.rank (length slots) (place_at before i) < low_rank r.rank (length slots) i
  falls i h ring = on (slice_get slots i) refl
    where
      on : (o : Option (Option ParkedName)) → slice_get slots i ≡ o →
          low_rank r.rank (length slots) (place_at before i) < low_rank r.rank (length slots) i
      on None e = absurd (none-some _ (sym e ∙ slice_get-get_or slots i None h))
      on (Some None) e = absurd (none-some head (sym (ap (λ o. ring_of by_kind slots i o) e) ∙ ring))
      on (Some (Some p)) e =
          let l = r.linked i (omega arith) in
          let o = l.order p e in
          low_falls r.rank (length slots) (place_at before i) i h o.1

  -- a bound above the rank counts all steps
  steps_same : (k i : ℕ) → i < length slots + 5 → ring_at by_kind slots i ≡ Some head → low_rank r.rank (length slots) i < k →
      steps_back (length slots) before (suc k) i ≡ steps_back (length slots) before k i
  steps_same zero i h ring few = absurd (omega arith)
  steps_same (suc k) i h ring few = elim (cases_lt i (length slots)) [
    | inl under ↦
        let l = r.linked i h in
        let fall = falls i under ring in
        rw (lt-ltb i (length slots) under)
        (ap suc (steps_same k (place_at before i) l.before_within (l.ring ∙ ring) (omega (arith, fall, few))))
    | inr over ↦ rw (le-ltb i (length slots) over) refl
  ]

  pub steps_fall : (i : ℕ) → i < length slots → ring_at by_kind slots i ≡ Some head →
      steps_back (length slots) before (suc (suc (length slots))) (place_at before i)
      < steps_back (length slots) before (suc (suc (length slots))) i
  steps_fall i h ring =
      let l = r.linked i (omega arith) in
      let fall = falls i h ring in
      let same = steps_same (suc (length slots)) (place_at before i) l.before_within (l.ring ∙ ring)
      (omega (arith, fall, low_few r.rank (length slots) i)) in
      rw (same, lt-ltb i (length slots) h) (omega arith)
