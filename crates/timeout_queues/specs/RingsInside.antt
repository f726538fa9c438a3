-- How slots keep an order: rings of places, in which no deadline is before the one of the place before.
--
-- The places are the slots, and behind them one more for each ring, its head. A slot that holds nothing is alone: it
-- stands before and behind itself.
use Rattle.std.specs.Prelude.{◌≡◌, ℕ, ◌+◌, ◌<◌, ◌≤◌, List, length, Option, Some, None, IfSome, IsSomeAnd, slice_get, slice_index_or}
use Rattle.mpm_base.specs.declared.conn.Kind.{Kind}
use Rattle.mpm_base.specs.declared.conn.Kind.TheVariants.{Reading, KeepAlive, Writing, Linger, ShortLinger}
use Rattle.timeout_queues.specs.Waiting.{ParkedName, deadline_of}
use Rattle.timeout_queues.specs.declared.Due.{Due}

-- how many rings there are, and of what a slot may hold the number of its ring and its deadline there
pub record RingRule (X : Type 0) : Type 0 where
  pub rings : ℕ
  pub number : X → ℕ
  pub due : X → ℕ

-- the number of a kind's ring
abbrev pub ring_number : Kind → ℕ
ring_number Reading = 0
ring_number KeepAlive = 1
ring_number Writing = 2
ring_number Linger = 3
ring_number ShortLinger = 4

-- a parked name stands in the ring of its kind, in the order of the deadlines
abbrev pub by_kind : RingRule ParkedName
by_kind = record { rings = 5; number = λ p. ring_number p.kind; due = λ p. p.deadline }

-- a slot that holds a number stands in the ring of that number, in any order
abbrev pub by_number : RingRule ℕ
by_number = record { rings = 128; number = λ n. n; due = λ _. 0 }

-- the place that a list of places has at a place
abbrev pub place_at : List ℕ → ℕ → ℕ
place_at places i = slice_index_or places i 0

-- of what a slot has, or of a place behind all slots, the head of its ring
abbrev pub ring_of : {X : Type 0} → RingRule X → List (Option X) → ℕ → Option (Option X) → Option ℕ
ring_of rule slots i None = Some i
ring_of rule slots i (Some None) = None
ring_of rule slots i (Some (Some p)) = Some (length slots + rule.number p)

-- the head of the ring that a place is in; none where it is alone
abbrev pub ring_at : {X : Type 0} → RingRule X → List (Option X) → ℕ → Option ℕ
ring_at rule slots i = ring_of rule slots i (slice_get slots i)

-- the deadline of what a slot has, and 0 where there is none
abbrev pub due_of : {X : Type 0} → RingRule X → Option (Option X) → ℕ
due_of rule None = 0
due_of rule (Some None) = 0
due_of rule (Some (Some p)) = rule.due p

-- the deadline at a place
abbrev pub due_at : {X : Type 0} → RingRule X → List (Option X) → ℕ → ℕ
due_at rule slots i = due_of rule (slice_get slots i)

-- a place between the one before it and the one behind it, in one ring with them, and due no earlier than the
-- one before it; ranks rise along a ring
pub record IsLinked {X : Type 0} (rule : RingRule X) (slots : List (Option X))
    (before behind : ℕ → ℕ) (rank : ℕ → ℕ) (i : ℕ) : Type 0 where
  pub before_within : before i < length slots + rule.rings
  pub behind_within : behind i < length slots + rule.rings
  pub back : before (behind i) ≡ i
  pub forth : behind (before i) ≡ i
  pub ring : ring_at rule slots (before i) ≡ ring_at rule slots i
  pub alone : ring_at rule slots i ≡ None → before i ≡ i
  pub order : (p : X)
      → slice_get slots i ≡ Some (Some p)
      → (due_at rule slots (before i) ≤ rule.due p) × (rank (before i) < rank i)

-- each place is linked so
pub record IsRings {X : Type 0} (rule : RingRule X) (slots : List (Option X))
    (before behind : List ℕ) : Type 0 where
  pub few : length slots ≤ 8192
  pub befores : length before ≡ length slots + rule.rings
  pub behinds : length behind ≡ length slots + rule.rings
  pub rank : ℕ → ℕ
  pub linked : (i : ℕ)
      → i < length slots + rule.rings
      → IsLinked rule slots (place_at before) (place_at behind) rank i

-- so many places, each of which is alone
pub record IsAlone (places : List ℕ) (n : ℕ) : Type 0 where
  pub count : length places ≡ n
  pub itself : (i : ℕ) → i < n → place_at places i ≡ i

-- what is parked in a slot is due at or after the deadline
abbrev pub IsDueFrom : List (Option ParkedName) → ℕ → ℕ → Type 0
IsDueFrom slots deadline place =
    (q : ParkedName) → slice_get slots place ≡ Some (Some q) → deadline ≤ q.deadline

-- the place is in the ring, and what stands behind it is due at or after the deadline
pub record IsBack (slots : List (Option ParkedName)) (behind : List ℕ)
    (head deadline place : ℕ) : Type 0 where
  pub within : place < length slots + 5
  pub ring : ring_at by_kind slots place ≡ Some head
  pub later : IsDueFrom slots deadline (place_at behind place)

-- the place is the last of a ring whose deadline is at or before this one
pub record IsLastBefore {X : Type 0} (rule : RingRule X) (slots : List (Option X)) (behind : List ℕ)
    (head deadline place : ℕ) : Type 0 where
  pub within : place < length slots + rule.rings
  pub ring : ring_at rule slots place ≡ Some head
  pub due : due_at rule slots place ≤ deadline
  pub later : (q : X)
      → slice_get slots (place_at behind place) ≡ Some (Some q)
      → deadline ≤ rule.due q

-- a parked name that none of those whose ring's number is in the set comes before
pub record IsFirstOf (slots : List (Option ParkedName)) (among : ℕ → Type 0)
    (first : Option Due) : Type 0 where
  pub least : (i : ℕ) (p : ParkedName)
      → slice_get slots i ≡ Some (Some p)
      → among (ring_number p.kind)
      → IsSomeAnd first (λ (due : Due). due.deadline ≤ p.deadline)
  pub parked : IfSome first (λ (due : Due). deadline_of slots due.name ≡ Some due.deadline)
