-- What stands behind the head of a ring.
use Rattle.std.proofs.Common.{◌≡◌, ℕ, zero, suc, ◌+◌, ◌<◌, ◌≤◌, List, length, Option, Some, None, slice_get, refl, sym, ap, ◌∙◌, arith}
use Rattle.std.proofs.lemmas.Option.{none-some, same_Some, slice_get_within, slice_get-get_or, slice_get_past}
use Rattle.timeout_queues.specs.RingsInside.{RingRule, ring_of, ring_at, due_of, due_at, place_at, IsRings}
use Rattle.timeout_queues.proofs.RingLemmas.{ring_behind}

-- a slot at the head of its ring that is due no later than what is parked in another
pub record IsHead {X : Type 0} (rule : RingRule X) (slots : List (Option X)) (place deadline : ℕ) : Type 0 where
  pub name : X
  pub there : slice_get slots place ≡ Some (Some name)
  pub due : rule.due name ≤ deadline

module _ {X : Type 0} (rule : RingRule X) (slots : List (Option X)) (before behind : List ℕ) (r : IsRings rule slots before behind) (number : ℕ) where
  head_least : (m i : ℕ) (p : X) → r.rank i < m → slice_get slots i ≡ Some (Some p) → rule.number p ≡ number →
      IsHead rule slots (place_at behind (length slots + number)) (rule.due p)
  head_least zero i p low at kind = absurd (omega arith)
  head_least (suc m) i p low at kind = on (slice_get slots (place_at before i)) refl (head_least m)
    where
      inside : i < length slots + rule.rings
      inside = omega (arith, slice_get_within slots i (Some p) at)

      ring : ring_at rule slots (place_at before i) ≡ Some (length slots + number)
      ring = let l = r.linked i inside in
          l.ring ∙ ap (λ o. ring_of rule slots i o) at ∙ ap (λ n. Some (length slots + n)) kind

      on : (o : Option (Option X)) → slice_get slots (place_at before i) ≡ o →
          ((j : ℕ) (q : X) → r.rank j < m → slice_get slots j ≡ Some (Some q) → rule.number q ≡ number →
          IsHead rule slots (place_at behind (length slots + number)) (rule.due q)) →
          IsHead rule slots (place_at behind (length slots + number)) (rule.due p)
      on None e again =
          let l = r.linked i inside in
          let head : place_at before i ≡ length slots + number =
          same_Some (place_at before i) (length slots + number) (sym (ap (λ o. ring_of rule slots (place_at before i) o) e) ∙ ring) in
          let here : place_at behind (length slots + number) ≡ i = ap (λ j. place_at behind j) (sym head) ∙ l.forth in
          record { name = p; there = ap (λ j. slice_get slots j) here ∙ at; due = omega arith }
      on (Some None) e again =
          absurd (none-some (length slots + number) (sym (ap (λ o. ring_of rule slots (place_at before i) o) e) ∙ ring))
      on (Some (Some q)) e again =
          let l = r.linked i inside in
          let o = l.order p at in
          let same : length slots + rule.number q ≡ length slots + number =
          same_Some (length slots + rule.number q) (length slots + number) (sym (ap (λ x. ring_of rule slots (place_at before i) x) e) ∙ ring) in
          let due : due_at rule slots (place_at before i) ≡ rule.due q = ap (due_of rule) e in
          let head = again (place_at before i) q (omega (arith, o.1, low)) e (omega (arith, same)) in
          record { name = head.name; there = head.there; due = omega (arith, head.due, due, o.0) }

  pub ring_first : (i : ℕ) (p : X) → slice_get slots i ≡ Some (Some p) → rule.number p ≡ number →
      IsHead rule slots (place_at behind (length slots + number)) (rule.due p)
  ring_first i p at kind = head_least (suc (r.rank i)) i p (omega arith) at kind

-- what a slot of a ring holds has the number of that ring
pub ring_holds : {X : Type 0} (rule : RingRule X) (slots : List (Option X)) (number slot : ℕ) → slot < length slots →
    ring_at rule slots slot ≡ Some (length slots + number) → (p : X) × (slice_get slots slot ≡ Some (Some p)) × (rule.number p ≡ number)
ring_holds {X} rule slots number slot within ring = on (slice_get slots slot) refl
  where
    on : (o : Option (Option X)) → slice_get slots slot ≡ o → (p : X) × (slice_get slots slot ≡ Some (Some p)) × (rule.number p ≡ number)
    on None e = absurd (none-some _ (sym e ∙ slice_get-get_or slots slot None within))
    on (Some None) e = absurd (none-some (length slots + number) (sym (ap (λ o. ring_of rule slots slot o) e) ∙ ring))
    on (Some (Some q)) e =
        let same : length slots + rule.number q ≡ length slots + number =
        same_Some (length slots + rule.number q) (length slots + number) (sym (ap (λ o. ring_of rule slots slot o) e) ∙ ring) in
        (q, e, omega (arith, same))

-- what a slot behind the head of a ring holds is in that ring
pub head_number : {X : Type 0} (rule : RingRule X) (slots : List (Option X)) (before behind : List ℕ) (number slot : ℕ) → IsRings rule slots before behind →
    number < rule.rings → slot ≡ place_at behind (length slots + number) → slot < length slots →
    (p : X) × (slice_get slots slot ≡ Some (Some p)) × (rule.number p ≡ number)
head_number rule slots before behind number slot r few is within =
    let head : length slots + number < length slots + rule.rings = omega arith in
    let past = slice_get_past slots (length slots + number) (omega arith) in
    ring_holds rule slots number slot within
    (ap (λ i. ring_at rule slots i) is
    ∙ ring_behind rule slots (place_at before) (place_at behind) r.rank r.linked (length slots + number) head
    ∙ ap (λ o. ring_of rule slots (length slots + number) o) past)
