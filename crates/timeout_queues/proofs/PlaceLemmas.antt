-- The lists of the rings, while a slot is put in and taken out, and as they are made.
use Rattle.std.proofs.Common.{◌≡◌, ◌≢◌, ℕ, zero, suc, ◌+◌, ◌<◌, ◌≤◌, List, [], ◌∷◌, length, set, replicate, Option, Some, None, slice_get, refl, sym, ap, ◌∙◌, arith}
use Rattle.std.proofs.lemmas.List.{length-set, length-replicate, get_or-set_same, get_or-set_other}
use Rattle.std.proofs.lemmas.Option.{none-some, slice_get_within}
use Rattle.timeout_queues.specs.RingsInside.{RingRule, ring_of, ring_at, place_at, IsRings, IsAlone, IsLastBefore}
use Rattle.timeout_queues.proofs.RingLemmas.{IsChanged, rank_with, lone_behind, inserted, removed}

module _ {X : Type 0} where
  -- what stands at a place after a write to it, and at another place
  get-set_same : (xs : List X) (i : ℕ) (y : X) → i < length xs → slice_get (set xs i y) i ≡ Some y
  get-set_same [] i y h = absurd (omega arith)
  get-set_same (x ∷ xs) zero y h = refl
  get-set_same (x ∷ xs) (suc i) y h = get-set_same xs i y (omega arith)

  get-set_other : (xs : List X) (i j : ℕ) (y : X) → j ≢ i → slice_get (set xs i y) j ≡ slice_get xs j
  get-set_other [] i j y h = refl
  get-set_other (x ∷ xs) zero zero y h = absurd (h refl)
  get-set_other (x ∷ xs) zero (suc j) y h = refl
  get-set_other (x ∷ xs) (suc i) zero y h = refl
  get-set_other (x ∷ xs) (suc i) (suc j) y h = get-set_other xs i j y (λ e. h (ap suc e))

-- a slot after a write
changed : {X : Type 0} (slots : List (Option X)) (s : ℕ) (is : Option X) → s < length slots → IsChanged slots (set slots s is) s is
changed slots s is h = record {
  count = length-set slots s is;
  here = get-set_same slots s is h;
  others = λ i ne. get-set_other slots s i is ne;
}

-- two places after a write to both, and any other
record IsTwice (xs ys : List ℕ) (i x j y : ℕ) : Type 0 where
  length_same : length ys ≡ length xs
  first : j ≢ i → place_at ys i ≡ x
  second : place_at ys j ≡ y
  rest : (k : ℕ) → k ≢ i → k ≢ j → place_at ys k ≡ place_at xs k

twice : (xs : List ℕ) (i x j y : ℕ) → i < length xs → j < length xs → IsTwice xs (set (set xs i x) j y) i x j y
twice xs i x j y hi hj =
    let within : j < length (set xs i x) = omega (arith, hj, length-set xs i x) in
    record {
      length_same = length-set (set xs i x) j y ∙ length-set xs i x;
      first = λ ne. get_or-set_other (set xs i x) j i y 0 (λ e. ne (sym e)) ∙ get_or-set_same xs i x 0 hi;
      second = get_or-set_same (set xs i x) j y 0 within;
      rest = λ k a b. get_or-set_other (set xs i x) j k y 0 b ∙ get_or-set_other xs i k x 0 a;
    }

-- a slot is put in behind the last whose deadline is at or before its own
pub rings_park : {X : Type 0} (rule : RingRule X) (slots : List (Option X)) (before behind : List ℕ) (s place : ℕ) (p : X) →
    IsRings rule slots before behind → slice_get slots s ≡ Some None →
    IsLastBefore rule slots behind (length slots + rule.number p) (rule.due p) place →
    IsRings rule (set slots s (Some p)) (set (set before s place) (place_at behind place) s) (set (set behind s (place_at behind place)) place s)
rings_park rule slots before behind s place p r free at =
    let b = place_at before in
    let f = place_at behind in
    let inside = slice_get_within slots s None free in
    let slot : s < length slots + rule.rings = omega arith in
    let lone : ring_at rule slots s ≡ None = ap (λ o. ring_of rule slots s o) free in
    let at_place = r.linked place at.within in
    let apart : place ≢ s = λ e. none-some (length slots + rule.number p) (sym lone ∙ ap (λ i. ring_at rule slots i) (sym e) ∙ at.ring) in
    let next_apart : f place ≢ s = λ e. apart (lone_behind rule slots b f r.rank r.linked place s at.within slot lone e) in
    let bs = twice before s place (f place) s (omega (arith, slot, r.befores)) (omega (arith, at_place.behind_within, r.befores)) in
    let fs = twice behind s (f place) place s (omega (arith, slot, r.behinds)) (omega (arith, at.within, r.behinds)) in
    let c = changed slots s (Some p) inside in
    record {
      few = omega (arith, c.count, r.few);
      befores = omega (arith, bs.length_same, c.count, r.befores);
      behinds = omega (arith, fs.length_same, c.count, r.behinds);
      rank = rank_with r.rank place s;
      linked = inserted rule slots (set slots s (Some p)) b f (place_at (set (set before s place) (f place) s)) (place_at (set (set behind s (f place)) place s))
          r.rank place s p r.linked c
          (record {
            before_next = bs.second;
            before_new = bs.first next_apart;
            before_other = λ i ne other. bs.rest i other ne;
            behind_place = fs.second;
            behind_new = fs.first apart;
            behind_other = λ i ne other. fs.rest i other ne;
          })
          slot free at.within at.ring at.due at.later;
    }

-- a slot is taken out of its ring
pub rings_unpark : {X : Type 0} (rule : RingRule X) (slots : List (Option X)) (before behind : List ℕ) (s : ℕ) (p : X) →
    IsRings rule slots before behind → slice_get slots s ≡ Some (Some p) →
    IsRings rule (set slots s None) (set (set before (place_at behind s) (place_at before s)) s s) (set (set behind (place_at before s) (place_at behind s)) s s)
rings_unpark rule slots before behind s p r parked =
    let b = place_at before in
    let f = place_at behind in
    let inside = slice_get_within slots s (Some p) parked in
    let slot : s < length slots + rule.rings = omega arith in
    let l = r.linked s slot in
    let o = l.order p parked in
    let last : b s ≢ s = λ e. let same : r.rank (b s) ≡ r.rank s = ap r.rank e in omega (arith, o.1, same) in
    let next : f s ≢ s = λ e. last (sym (ap b e) ∙ l.back) in
    let bs = twice before (f s) (b s) s s (omega (arith, l.behind_within, r.befores)) (omega (arith, slot, r.befores)) in
    let fs = twice behind (b s) (f s) s s (omega (arith, l.before_within, r.behinds)) (omega (arith, slot, r.behinds)) in
    let c = changed slots s None inside in
    record {
      few = omega (arith, c.count, r.few);
      befores = omega (arith, bs.length_same, c.count, r.befores);
      behinds = omega (arith, fs.length_same, c.count, r.behinds);
      rank = r.rank;
      linked = removed rule slots (set slots s None) b f (place_at (set (set before (f s) (b s)) s s)) (place_at (set (set behind (b s) (f s)) s s))
          r.rank s p r.linked c
          (record {
            before_next = bs.first (λ e. next (sym e));
            before_self = bs.second;
            before_other = bs.rest;
            behind_last = fs.first (λ e. last (sym e));
            behind_self = fs.second;
            behind_other = fs.rest;
          })
          slot parked;
    }

-- slots that never held anything
never_parked : {X : Type 0} (n i : ℕ) (p : X) → slice_get (replicate n None) i ≡ Some (Some p) → ⊥
never_parked zero i p e = absurd (cc)
never_parked (suc n) zero p e = absurd (cc)
never_parked (suc n) (suc i) p e = never_parked n i p e

pub rings_empty : {X : Type 0} (rule : RingRule X) (n : ℕ) (before behind : List ℕ) → n ≤ 8192 → IsAlone before (n + rule.rings) → IsAlone behind (n + rule.rings) →
    IsRings rule (replicate n None) before behind
rings_empty {X} rule n before behind few b f =
    let count = length-replicate {A = Option X} n None in
    record {
      few = omega (arith, count, few);
      befores = omega (arith, count, b.count);
      behinds = omega (arith, count, f.count);
      rank = λ _. 0;
      linked = λ i h.
          let inside : i < n + rule.rings = omega (arith, count, h) in
          let own = b.itself i inside in
          let same = f.itself i inside in
          record {
            before_within = rw own h;
            behind_within = rw same h;
            back = ap (place_at before) same ∙ own;
            forth = ap (place_at behind) own ∙ same;
            ring = ap (λ j. ring_at rule (replicate n None) j) own;
            alone = λ _. own;
            order = λ p at. absurd (never_parked n i p at);
          };
    }
