-- The places that are read and written while a slot is put in and taken out are within their lists.
use Rattle.std.proofs.Common.{◌≡◌, ℕ, ◌+◌, ◌<◌, ◌≤◌, List, length, map, Option, Some, Fits, w32, w64, slice_get, get_or, sym, ap, subst, ◌∙◌, arith}
use Rattle.std.proofs.lemmas.List.{length-map, get_or_read}
use Rattle.std.proofs.lemmas.Option.{slice_get_within}
use Rattle.mpm_base.specs.declared.conn.Kind.{Kind}
use Rattle.timeout_queues.specs.Waiting.{ParkedName}
use Rattle.timeout_queues.specs.Entries.{parked_in}
use Rattle.timeout_queues.specs.RingsInside.{RingRule, ring_number, by_kind, by_number, due_at, place_at, IsRings, IsBack, IsLastBefore}
use Rattle.timeout_queues.specs.declared.Entry.{Entry}
use Rattle.timeout_queues.proofs.FirstLemmas.{kind_few}
use Rattle.timeout_queues.proofs.WalkLemmas.{back_first, back_more}

-- ## Of any rings

module _ {X : Type 0} (rule : RingRule X) (slots : List (Option X)) (before behind : List ℕ) (r : IsRings rule slots before behind) where
  -- both lists are of one length
  pub lists_match : length before ≡ length behind
  lists_match = r.befores ∙ sym r.behinds

  -- a place is one of either list
  pub place_before : (i : ℕ) → i < length slots + rule.rings → i < length before
  place_before i h = omega (arith, r.befores)

  pub place_behind : (i : ℕ) → i < length slots + rule.rings → i < length behind
  place_behind i h = omega (arith, r.behinds)

  -- and so are its neighbours
  pub last_within : (i : ℕ) → i < length slots + rule.rings → place_at before i < length behind
  last_within i h = let l = r.linked i h in omega (arith, l.before_within, r.behinds)

  pub next_within : (i : ℕ) → i < length slots + rule.rings → place_at behind i < length behind
  next_within i h = let l = r.linked i h in omega (arith, l.behind_within, r.behinds)

  -- a slot that is there is a place
  pub slot_place : (s : ℕ) (o : Option X) → slice_get slots s ≡ Some o → s < length slots + rule.rings
  slot_place s o at = let within = slice_get_within slots s o at in omega (arith, within)

-- ## Of the parked names

-- a slot in which something may be parked is one of those that are kept
pub kept_within : (kept : List (Option Entry)) (s : ℕ) (o : Option ParkedName) → slice_get (map parked_in kept) s ≡ Some o → s < length kept
kept_within kept s o at = let within = slice_get_within (map parked_in kept) s o at in omega (arith, within, length-map kept parked_in)

-- they are few enough for 32 bits
pub kept_few : (kept : List (Option Entry)) (before behind : List ℕ) (n len : ℕ) → IsRings by_kind (map parked_in kept) before behind → n ≡ len → len ≡ length kept → n ≤ 8192
kept_few kept before behind n len r is count = omega (arith, r.few, is, count, length-map kept parked_in)

pub few_fit : (n : ℕ) → n ≤ 8192 → Fits w32 n
few_fit n few = omega (arith, few)

-- the head of a kind's ring is behind the slots
pub head_after : (m n len head : ℕ) (kind : Kind) → m ≡ len → n ≡ len → head ≡ n + ring_number kind → (m ≤ head) × (head < m + 5)
head_after m n len head kind slots is own =
    let few = kind_few kind in
    (omega (arith, slots, is, own), omega (arith, slots, is, own, few))

-- and a place of the rings
pub head_before : (kept : List (Option Entry)) (before behind : List ℕ) (head : ℕ) → IsRings by_kind (map parked_in kept) before behind → head < length kept + 5 → head < length before
head_before kept before behind head r below = omega (arith, r.befores, below, length-map kept parked_in)

-- the walk back begins at what was read before the head
pub back_last : (kept : List (Option Entry)) (before behind : List ℕ) (head deadline last : ℕ) → IsRings by_kind (map parked_in kept) before behind →
    (length kept ≤ head) × (head < length kept + 5) → last ≡ get_or before head last → IsBack (map parked_in kept) behind head deadline last
back_last kept before behind head deadline last r bounds read =
    let place = get_or_read before head last (head_before kept before behind head r bounds.1) read 0 in
    subst (λ (n : ℕ). IsBack (map parked_in kept) behind head deadline n) (sym place)
    (back_first (map parked_in kept) before behind head deadline r (omega (arith, bounds.0, length-map kept parked_in)) (omega (arith, bounds.1, length-map kept parked_in)))

-- and ends at the first place that isn't due later
pub last_here : (slots : List (Option ParkedName)) (behind : List ℕ) (head deadline place due : ℕ) → IsBack slots behind head deadline place →
    due ≡ due_at by_kind slots place → due ≤ deadline → IsLastBefore by_kind slots behind head deadline place
last_here slots behind head deadline place due at is early =
    record { within = at.within; ring = at.ring; due = omega (arith, is, early); later = at.later }

-- until then it goes on with what was read before the place
pub back_on : (slots : List (Option ParkedName)) (before behind : List ℕ) (head deadline place due last : ℕ) → IsRings by_kind slots before behind →
    IsBack slots behind head deadline place → due ≡ due_at by_kind slots place → deadline < due → last ≡ get_or before place last → IsBack slots behind head deadline last
back_on slots before behind head deadline place due last r at is late read =
    let to = get_or_read before place last (place_before by_kind slots before behind r place at.within) read 0 in
    subst (λ (n : ℕ). IsBack slots behind head deadline n) (sym to)
    (back_more slots before behind head deadline place r at (omega (arith, is, late)))

-- ## Of slots in rings by number

-- the count of the slots and the head of a ring fit their widths
pub filed_fits : (n len m : ℕ) → n ≡ len → len ≡ m → m ≤ 8192 → Fits w32 n
filed_fits n len m is count few = omega (arith, is, count, few)

pub head_fits : (n len m ring : ℕ) → n ≡ len → len ≡ m → m ≤ 8192 → ring < 128 → Fits w32 (n + ring)
head_fits n len m ring is count few below = omega (arith, is, count, few, below)

pub head_fits_wide : (n len m ring : ℕ) → n ≡ len → len ≡ m → m ≤ 8192 → ring < 128 → Fits w64 (n + ring)
head_fits_wide n len m ring is count few below = omega (arith, is, count, few, below)

-- the head is a place
pub head_place : (n len m ring places : ℕ) → n ≡ len → len ≡ m → places ≡ m + 128 → ring < 128 → n + ring < places
head_place n len m ring places is count all below = omega (arith, is, count, all, below)

-- what was read before it is the last of its ring
pub last_read : (slots : List (Option ℕ)) (before behind : List ℕ) (n len ring last : ℕ) → IsRings by_number slots before behind → n ≡ len → len ≡ length slots →
    ring < 128 → last ≡ get_or before (n + ring) last → last ≡ place_at before (length slots + ring)
last_read slots before behind n len ring last r is count below read =
    let same : n ≡ length slots = is ∙ count in
    get_or_read before (n + ring) last (head_place n len (length slots) ring (length before) is count r.befores below) read 0
    ∙ ap (λ (m : ℕ). place_at before (m + ring)) same

-- and so a place, as is the one behind it
pub last_place : (slots : List (Option ℕ)) (before behind : List ℕ) (ring last : ℕ) → IsRings by_number slots before behind → ring < 128 →
    last ≡ place_at before (length slots + ring) → last < length slots + 128
last_place slots before behind ring last r below is =
    let l = r.linked (length slots + ring) (omega (arith, below)) in
    subst (λ (n : ℕ). n < length slots + 128) (sym is) l.before_within
