-- What calls make of a table of slots, one after another, and which names never have an item again.
use Rattle.std.specs.Prelude.{◌≡◌, List, [], ◌∷◌, None}
use Rattle.mpm_base.specs.declared.conn.ConnName.{ConnName}
use Rattle.conn_slots.specs.Slots.{Slot, item_of, HasItem, IsNextName, with_item, without_item}

-- a change of the table: an item put under a name, taken from it, or written over the one that it has
pub data Change (T : Type 0) : Type 0 where
  puts : ConnName → T → Change T
  takes : ConnName → Change T
  writes : ConnName → T → Change T

module _ {T : Type 0} where
  -- an item is put under the next name of a vacant slot, and taken or written under a live name
  abbrev pub CanBe : List (Slot T) → Change T → Type 0
  CanBe slots (puts name _) = IsNextName slots name
  CanBe slots (takes name) = HasItem slots name
  CanBe slots (writes name _) = HasItem slots name

  -- the table after a change
  abbrev pub after_change : List (Slot T) → Change T → List (Slot T)
  after_change slots (puts name x) = with_item slots name x
  after_change slots (takes name) = without_item slots name
  after_change slots (writes name x) = with_item slots name x

  -- these changes, in order, lead from the first table to the second
  abbrev pub ChangesLead : List (Slot T) → List (Change T) → List (Slot T) → Type 0
  ChangesLead from [] to = to ≡ from
  ChangesLead from (c ∷ cs) to = CanBe from c × ChangesLead (after_change from c) cs to

  -- whatever changes follow, the name has no item
  abbrev pub NeverLiveAgain : List (Slot T) → ConnName → Type 0
  NeverLiveAgain slots name =
      (changes : List (Change T)) (later : List (Slot T)) → ChangesLead slots changes later →
      item_of later name ≡ None

  -- whatever changes led here, the name had no item before them
  abbrev pub WasNeverLive : List (Slot T) → ConnName → Type 0
  WasNeverLive slots name =
      (earlier : List (Slot T)) (changes : List (Change T)) → ChangesLead earlier changes slots →
      item_of earlier name ≡ None
