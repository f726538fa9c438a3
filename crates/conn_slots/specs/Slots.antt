-- A table of slots as its callers see it: a map from the live names to their items.
--
-- Each slot has a life, the use number in the name of its item. It rises each time that an item is taken
-- from the slot, so a name whose life lies below that of its slot is used up for ever.
use Rattle.std.specs.Prelude.{◌≡◌, ◌≢◌, ℕ, ◌+◌, nat_lt, Bool, ◌&&◌, ◌==◌, if◌then◌else◌, List, Option, Some, None, is_none, IsSome, slice_get, slice_set, count_by, option_map, option_and_then, replicate}
use Rattle.mpm_base.specs.declared.conn.ConnName.{ConnName}

-- how many lives a slot has: one for each number of 32 bits, from 0 on
abbrev pub most_lives : ℕ
most_lives = 4294967296

-- a slot: the life of its item, or of its next one, and the item that it has
pub record Slot (T : Type 0) : Type 0 where
  pub life : ℕ
  pub item : Option T

-- a table: its slots, and which of them is given the next item
pub record SeenSlots (T : Type 0) : Type 0 where
  pub slots : List (Slot T)
  pub next : Option ℕ

module _ {T : Type 0} where
  -- the slot has no item, and a life for one more
  abbrev pub is_vacant_slot : Slot T → Bool
  is_vacant_slot s = is_none s.item && nat_lt s.life most_lives

  -- n slots that were never used
  abbrev pub unused_slot : ℕ → List (Slot T)
  unused_slot n = replicate n (record { life = 0; item = None })

  -- how many slots can be given an item
  abbrev pub vacant_count : List (Slot T) → ℕ
  vacant_count slots = count_by is_vacant_slot slots

  -- the item that a slot has in this life
  abbrev pub item_in : ℕ → Slot T → Option T
  item_in life s = if s.life == life then s.item else None

  -- the map: the item of a live name, and None of any other name
  abbrev pub item_of : List (Slot T) → ConnName → Option T
  item_of slots name = option_and_then (item_in name.life) (slice_get slots name.slot)

  -- the name has an item
  abbrev pub HasItem : List (Slot T) → ConnName → Type 0
  HasItem slots name = IsSome (item_of slots name)

  -- the name is the next one of a slot that has no item
  abbrev pub IsNextName : List (Slot T) → ConnName → Type 0
  IsNextName slots name = slice_get slots name.slot ≡ Some (record { life = name.life; item = None })

  -- the name that an item of a slot has in its life
  abbrev pub name_in : List (Slot T) → ℕ → Option ConnName
  name_in slots slot = option_map (λ (s : Slot T). record { slot = slot; life = s.life }) (slice_get slots slot)

  -- the name that the next item is given
  abbrev pub next_name : SeenSlots T → Option ConnName
  next_name table = option_and_then (name_in table.slots) table.next

  -- the table with this item under the name
  abbrev pub with_item : List (Slot T) → ConnName → T → List (Slot T)
  with_item slots name x = slice_set slots name.slot (record { life = name.life; item = Some x })

  -- the table after the item of a live name was taken
  abbrev pub without_item : List (Slot T) → ConnName → List (Slot T)
  without_item slots name = slice_set slots name.slot (record { life = name.life + 1; item = None })

  -- the map has this at the name, and at every other name what it had
  pub record UpdatesItem (old new : List (Slot T)) (name : ConnName)
      (item : Option T) : Type 0 where
    pub changed : item_of new name ≡ item
    pub others : (other : ConnName) → other ≢ name → item_of new other ≡ item_of old other
