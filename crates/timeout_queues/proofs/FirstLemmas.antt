-- The first of a ring, and the first of all rings.
use Rattle.std.proofs.Common.{◌≡◌, ℕ, zero, suc, ◌+◌, ◌<◌, ◌≤◌, min, ◌⊎◌, inl, inr, Bool, true, false, cond, List, [], ◌∷◌, length, map, Option, Some, None, option_map, option_and_then, IfSome, IsSomeAnd, nat_eq, slice_get, get_or, refl, sym, ap, ◌∙◌, arith}
use Rattle.std.specs.Option.{option_map_or}
use Rattle.std.proofs.Math.ListN.{get_or-map}
use Rattle.std.proofs.lemmas.Bool.{cases_lt}
use Rattle.std.proofs.lemmas.List.{length-map}
use Rattle.std.proofs.lemmas.Option.{none-some, same_Some, get_or_from_slice_get}
use Rattle.mpm_base.specs.declared.conn.Kind.{Kind}
use Rattle.mpm_base.specs.declared.conn.Kind.TheVariants.{Reading, KeepAlive, Writing, Linger, ShortLinger}
use Rattle.timeout_queues.specs.Waiting.{ParkedName, all_parked, in_life, least_deadline}
use Rattle.timeout_queues.specs.Entries.{parked_in}
use Rattle.timeout_queues.specs.RingsInside.{ring_number, by_kind, place_at, IsRings, IsFirstOf}
use Rattle.timeout_queues.specs.declared.Due.{Due}
use Rattle.timeout_queues.specs.declared.Entry.{Entry}
use Rattle.timeout_queues.proofs.HeadLemmas.{ring_first}
use Rattle.timeout_queues.proofs.KeptLemmas.{deadline_at}
use Rattle.timeout_queues.proofs.LeastLemmas.{least_of, least_reduce}
use Rattle.timeout_queues.proofs.MapLemmas.{get_or_some}

-- ## Of one ring

-- what is kept behind the head of a ring, where something is parked that is in it
head_seen : (kept : List (Option Entry)) (before behind : List ℕ) (number slot : ℕ) → IsRings by_kind (map parked_in kept) before behind →
    slot ≡ place_at behind (length kept + number) →
    (i : ℕ) (p : ParkedName) → slice_get (map parked_in kept) i ≡ Some (Some p) → ring_number p.kind ≡ number →
    (q : ParkedName) × (parked_in (get_or kept slot None) ≡ Some q) × (q.deadline ≤ p.deadline)
head_seen kept before behind number slot r is i p at kind =
    let head = ring_first by_kind (map parked_in kept) before behind r number i p at kind in
    let count = length-map kept parked_in in
    let place : place_at behind (length (map parked_in kept) + number) ≡ slot = ap (λ n. place_at behind (n + number)) count ∙ sym is in
    let there = rw place at head.there in
    (head.name, sym (get_or-map parked_in kept slot None) ∙ get_or_from_slice_get (map parked_in kept) slot (Some head.name) None there, head.due)

pub first_some : (kept : List (Option Entry)) (before behind : List ℕ) (number slot : ℕ) (e : Entry) → IsRings by_kind (map parked_in kept) before behind →
    slot ≡ place_at behind (length kept + number) → Some e ≡ get_or kept slot None →
    IsFirstOf (map parked_in kept) (λ n. n ≡ number) (Some (record { name = record { slot = slot; life = e.life }; deadline = e.deadline }))
first_some kept before behind number slot e r is read = record {
  least = λ i p at kind.
      let head = head_seen kept before behind number slot r is i p at kind in
      let own : ◌≡◌ {A = Option ParkedName} (parked_in (Some e)) (Some head.0) = ap parked_in read ∙ head.1 in
      let same : e.deadline ≡ head.0.deadline = cc in
      omega (arith, same, head.2);
  parked = deadline_at kept slot e (sym read);
}

pub first_none : (kept : List (Option Entry)) (before behind : List ℕ) (number slot : ℕ) → IsRings by_kind (map parked_in kept) before behind →
    slot ≡ place_at behind (length kept + number) → None ≡ get_or kept slot None → IsFirstOf (map parked_in kept) (λ n. n ≡ number) None
first_none kept before behind number slot r is read = record {
  least = λ i p at kind.
      let head = head_seen kept before behind number slot r is i p at kind in
      let own : ◌≡◌ {A = Option ParkedName} (parked_in None) (Some head.0) = ap parked_in read ∙ head.1 in
      absurd (none-some head.0 own);
  parked = tt;
}

-- ## Of all rings

abbrev IsDueBy : ℕ → Option Due → Type 0
IsDueBy deadline first = IsSomeAnd first (λ (d : Due). d.deadline ≤ deadline)

-- what is due no later than one that is due by a deadline is due by it
sooner : (deadline : ℕ) (one first : Option Due) → IsDueBy deadline one → IfSome one (λ (d : Due). IsDueBy d.deadline first) → IsDueBy deadline first
sooner deadline None first due by = absurd due
sooner deadline (Some d) None due by = absurd by
sooner deadline (Some d) (Some e) due by = omega arith

pub first_more : (slots : List (Option ParkedName)) (k : ℕ) (former other first : Option Due) →
    IsFirstOf slots (λ n. n < k) former → IsFirstOf slots (λ n. n ≡ k) other →
    IfSome former (λ (d : Due). IsDueBy d.deadline first) → IfSome other (λ (d : Due). IsDueBy d.deadline first) →
    (first ≡ former) ⊎ (first ≡ other) → IsFirstOf slots (λ n. n < k + 1) first
first_more slots k former other first f o by_former by_other either = record {
  least = λ i p at among. elim (cases_lt (ring_number p.kind) k) [
    | inl below ↦ sooner p.deadline former first (f.least i p at below) by_former
    | inr above ↦ sooner p.deadline other first (o.least i p at (omega arith)) by_other
  ];
  parked = elim either [
    | inl e ↦ rw e f.parked
    | inr e ↦ rw e o.parked
  ];
}

pub first_of_none : (slots : List (Option ParkedName)) → IsFirstOf slots (λ n. n < 0) None
first_of_none slots = record { least = λ i p at among. absurd (omega arith); parked = tt }

-- ## The least deadline

pub kind_few : (k : Kind) → ring_number k < 5
kind_few Reading = omega arith
kind_few KeepAlive = omega arith
kind_few Writing = omega arith
kind_few Linger = omega arith
kind_few ShortLinger = omega arith

-- a parked name with a deadline
record IsParkedAt (slots : List (Option ParkedName)) (deadline : ℕ) : Type 0 where
  place : ℕ
  name : ParkedName
  there : slice_get slots place ≡ Some (Some name)
  due : name.deadline ≡ deadline

-- the least deadline of all that is parked, one by one
abbrev least_at : List (Option ParkedName) → Option ℕ
least_at slots = least_of (map (λ (p : ParkedName). p.deadline) (all_parked slots))

-- some parked name has the least deadline
least_parked : (slots : List (Option ParkedName)) (m : ℕ) → least_at slots ≡ Some m → IsParkedAt slots m
least_parked [] m e = absurd (cc)
least_parked (None ∷ slots) m e =
    let p = least_parked slots m e in record { place = suc p.place; name = p.name; there = p.there; due = p.due }
least_parked (Some q ∷ slots) m e = on (least_at slots) refl e (least_parked slots)
  where
    own : q.deadline ≡ m → IsParkedAt (Some q ∷ slots) m
    own same = record { place = 0; name = q; there = refl; due = same }

    on : (o : Option ℕ) → least_at slots ≡ o → Some (option_map_or (min q.deadline) o q.deadline) ≡ Some m →
        ((k : ℕ) → least_at slots ≡ Some k → IsParkedAt slots k) → IsParkedAt (Some q ∷ slots) m
    on None l same again = own (same_Some q.deadline m same)
    on (Some k) l same again =
        let is : min q.deadline k ≡ m = same_Some (min q.deadline k) m same in
        elim (cases_lt k q.deadline) [
          | inl less ↦
              let p = again k l in
              let due : p.name.deadline ≡ m = omega (arith, p.due, is, less) in
              record { place = suc p.place; name = p.name; there = p.there; due = due }
          | inr more ↦ own (omega (arith, is, more))
        ]

-- and none has one before it
least_below : (slots : List (Option ParkedName)) (i : ℕ) (p : ParkedName) → slice_get slots i ≡ Some (Some p) →
    IsSomeAnd (least_at slots) (λ m. m ≤ p.deadline)
least_below [] i p at = absurd (cc)
least_below (None ∷ slots) zero p at = absurd (cc)
least_below (None ∷ slots) (suc i) p at = least_below slots i p at
least_below (Some q ∷ slots) zero p at = on (least_at slots)
  where
    same : q.deadline ≡ p.deadline
    same = ap (λ (x : ParkedName). x.deadline) (same_Some q p (same_Some (Some q) (Some p) at))

    on : (o : Option ℕ) → option_map_or (min q.deadline) o q.deadline ≤ p.deadline
    on None = omega (arith, same)
    on (Some k) = omega (arith, same)
least_below (Some q ∷ slots) (suc i) p at = on (least_at slots) (least_below slots i p at)
  where
    on : (o : Option ℕ) → IsSomeAnd o (λ m. m ≤ p.deadline) → option_map_or (min q.deadline) o q.deadline ≤ p.deadline
    on None due = absurd due
    on (Some k) due = omega arith

-- what is parked under a name stands in its slot
parked_at : (o : Option ParkedName) (life d : ℕ) → option_map (λ (p : ParkedName). p.deadline) (option_and_then (in_life life) o) ≡ Some d →
    (p : ParkedName) × (o ≡ Some p) × (p.deadline ≡ d)
parked_at None life d e = absurd (cc)
parked_at (Some p) life d e = on (nat_eq p.life life) e
  where
    on : (b : Bool) → option_map (λ (q : ParkedName). q.deadline) (cond b (Some p) None) ≡ Some d →
        (q : ParkedName) × (Some p ≡ Some q) × (q.deadline ≡ d)
    on true same = (p, refl, same_Some p.deadline d same)
    on false same = absurd (cc)

-- the first of all has the least deadline
first_least_at : (slots : List (Option ParkedName)) (first : Option Due) → IsFirstOf slots (λ n. n < 5) first →
    option_map (λ (d : Due). d.deadline) first ≡ least_at slots
first_least_at slots None f = sym (none (least_at slots) refl)
  where
    none : (o : Option ℕ) → least_at slots ≡ o → least_at slots ≡ None
    none None e = e
    none (Some m) e =
        let p = least_parked slots m e in
        absurd (f.least p.place p.name p.there (kind_few p.name.kind))
first_least_at slots (Some d) f =
    let own = parked_at (get_or slots d.name.slot None) d.name.life d.deadline f.parked in
    let low = least_below slots d.name.slot own.0 (get_or_some slots d.name.slot own.0 own.1) in
    sym (some (least_at slots) refl own.0.deadline own.2 low)
  where
    some : (o : Option ℕ) → least_at slots ≡ o → (n : ℕ) → n ≡ d.deadline → IsSomeAnd o (λ m. m ≤ n) → o ≡ Some d.deadline
    some None e n same low = absurd low
    some (Some m) e n same low =
        let p = least_parked slots m e in
        let due = f.least p.place p.name p.there (kind_few p.name.kind) in
        ap Some (omega (arith, due, p.due))

pub first_least : (slots : List (Option ParkedName)) (first : Option Due) → IsFirstOf slots (λ n. n < 5) first →
    option_map (λ (d : Due). d.deadline) first ≡ least_deadline slots
first_least slots first f =
    first_least_at slots first f ∙ least_reduce (map (λ (p : ParkedName). p.deadline) (all_parked slots))
