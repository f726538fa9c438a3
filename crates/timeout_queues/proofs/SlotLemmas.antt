-- Slots that are filed in rings.
use Rattle.std.proofs.Common.{◌≡◌, ℕ, zero, suc, ◌+◌, ◌<◌, ◌≤◌, List, [], ◌∷◌, length, set, get_or, Option, Some, None, is_some, true, slice_get, refl, sym, ap, ◌∙◌, arith}
use Rattle.std.proofs.lemmas.Option.{none-some, slice_get_past, slice_get_read}
use Rattle.timeout_queues.specs.Filed.{StandsIn}
use Rattle.timeout_queues.specs.RingsInside.{by_number, ring_of, due_of, place_at, IsRings, IsLastBefore}
use Rattle.timeout_queues.proofs.HeadLemmas.{ring_first, head_number}

-- the slot behind the head of a ring stands in it
pub first_stands : (slots : List (Option ℕ)) (before behind : List ℕ) (ring slot : ℕ) → IsRings by_number slots before behind → ring < 128 →
    slot ≡ place_at behind (length slots + ring) → slot < length slots → StandsIn slots ring slot
first_stands slots before behind ring slot r few is within =
    let head = head_number by_number slots before behind ring slot r few is within in
    head.1 ∙ ap (λ n. Some (Some n)) head.2

-- where the head of a ring has no slot behind it, none stands in it
pub none_stands : (slots : List (Option ℕ)) (before behind : List ℕ) (ring place : ℕ) → IsRings by_number slots before behind →
    place ≡ place_at behind (length slots + ring) → length slots ≤ place → (slot : ℕ) → StandsIn slots ring slot → ⊥
none_stands slots before behind ring place r is past slot at =
    let head = ring_first by_number slots before behind r ring slot ring at refl in
    none-some (Some head.name) (sym (slice_get_past slots place past) ∙ ap (λ i. slice_get slots i) is ∙ head.there)

-- what stands in a ring by number has no deadline
no_due : (o : Option (Option ℕ)) → due_of by_number o ≤ 0
no_due None = omega arith
no_due (Some None) = omega arith
no_due (Some (Some n)) = omega arith

-- the place before the head of a ring is the last of it
pub last_filed : (slots : List (Option ℕ)) (before behind : List ℕ) (ring : ℕ) → IsRings by_number slots before behind → ring < 128 →
    IsLastBefore by_number slots behind (length slots + ring) 0 (place_at before (length slots + ring))
last_filed slots before behind ring r few =
    let within : length slots + ring < length slots + 128 = omega arith in
    let l = r.linked (length slots + ring) within in
    let past = slice_get_past slots (length slots + ring) (omega arith) in
    record {
      within = l.before_within;
      ring = l.ring ∙ ap (λ o. ring_of by_number slots (length slots + ring) o) past;
      due = no_due (slice_get slots (place_at before (length slots + ring)));
      later = λ q at. absurd (none-some (Some q) (sym past ∙ ap (λ i. slice_get slots i) (sym l.forth) ∙ at));
    }

-- a slot that is written twice
pub set_twice : (slots : List (Option ℕ)) (slot : ℕ) (o p : Option ℕ) → set (set slots slot o) slot p ≡ set slots slot p
set_twice [] slot o p = refl
set_twice (x ∷ slots) zero o p = refl
set_twice (x ∷ slots) (suc slot) o p = ap (λ ys. x ∷ ys) (set_twice slots slot o p)

-- a slot that holds something
pub slot_holds : (slots : List (Option ℕ)) (slot : ℕ) (o : Option ℕ) → slot < length slots → o ≡ get_or slots slot o → is_some o ≡ true →
    (ring : ℕ) × (slice_get slots slot ≡ Some (Some ring))
slot_holds slots slot None within is some = absurd (cc)
slot_holds slots slot (Some ring) within is some = (ring, slice_get_read slots (length slots) slot (Some ring) refl within is)
