-- What is kept of the entries of a table, and of the list of its vacant ones.
use Rattle.std.specs.Prelude.{◌≡◌, ℕ, zero, suc, ◌<◌, ◌≤◌, nat_lt, true, if◌then◌else◌, List, All, length, map, Option, Some, None, IsSome, slice_get}
use Rattle.conn_slots.specs.Slots.{most_lives, is_vacant_slot, vacant_count}
use Rattle.conn_slots.specs.Layout.{seen_slot}
use Rattle.conn_slots.specs.declared.Entry.{Entry}

-- the place, where it is one of the first n
abbrev pub place_below : ℕ → ℕ → Option ℕ
place_below n i = if nat_lt i n then Some i else None

module _ {T : Type 0} where
  -- the entry's life is one that a slot has, or the end of them where the entry has no item
  abbrev pub IsWithinLives : Entry T → Type 0
  IsWithinLives e = (e.life ≤ most_lives) × (IsSome e.item → e.life < most_lives)

  -- so many vacant entries, the first at this place, each of which names the one behind it
  abbrev pub IsVacantList : List (Entry T) → ℕ → Option ℕ → Type 0
  IsVacantList es zero first = first ≡ None
  IsVacantList es (suc count) None = ⊥
  IsVacantList es (suc count) (Some i) =
      (e : Entry T) × (slice_get es i ≡ Some e) × (is_vacant_slot (seen_slot e) ≡ true) × IsVacantList es count e.next

  -- there are at most 8,192 entries, each within its lives, and from the head on the list has all that are vacant
  pub record IsTable (entries : List (Entry T)) (head : Option ℕ) (free : ℕ) : Type 0 where
    pub few : length entries ≤ 8192
    pub within : All IsWithinLives entries
    pub counted : free ≡ vacant_count (map seen_slot entries)
    pub linked : IsVacantList entries free head
