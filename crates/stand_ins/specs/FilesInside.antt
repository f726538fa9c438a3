-- What holds between files at places and a map that finds them, and which of their names lie below a folder.
use Rattle.std.specs.Prelude.{◌≡◌, ◌≢◌, ℕ, ◌-◌, ◌<◌, min, Bool, true, false, ◌&&◌, List, [], length, map, filter, All, IsUtf8, None, Some, bytes_eq, slice_index_or, vec_capacity, vec_len}
use Rattle.std.specs.Option.{is_some}
use Rattle.std.specs.Global.{Vec}
use Rattle.std.specs.HashMap.{HashMap, get_by, spare}
use Rattle.mpm_base.specs.Store.{lies_under}
use Rattle.mpm_base.specs.declared.store.Content.{Content}
use Rattle.mpm_base.specs.declared.store.File.{File}
use Rattle.stand_ins.specs.declared.slot.Slot.{Slot}

-- a file that is to be put among others: its name, and what it has
pub record SeenEntry : Type 0 where
  pub name : List ℕ
  pub content : Content

-- files, and for how many further ones there is room
pub record SeenShelf : Type 0 where
  pub files : List File
  pub room : ℕ

-- for how many there is room in both
abbrev pub room_in : {X S : Type 0} → Vec X → HashMap (Vec ℕ) ℕ S → ℕ
room_in slots places = min (vec_capacity slots - vec_len slots) (spare places)

-- the key of a file is its name, which is UTF-8
pub record IsEntry (key name : List ℕ) : Type 0 where
  pub same : key ≡ name
  pub text : IsUtf8 name

-- a place at which there is no file
abbrev pub gone : Slot
gone = record { name = []; content = None }

abbrev pub slot_at : List Slot → ℕ → Slot
slot_at slots place = slice_index_or slots place gone

-- there is a file of that name at the place
abbrev pub has_name : List ℕ → Slot → Bool
has_name name slot = is_some slot.content && bytes_eq slot.name name

-- there is none at any place
abbrev pub HasNone : List ℕ → List Slot → Type 0
HasNone name slots = (place : ℕ) → has_name name (slot_at slots place) ≡ false

-- there is one at this place and at no other
pub record IsOnlyAt (name : List ℕ) (place : ℕ) (slots : List Slot) : Type 0 where
  pub within : place < length slots
  pub named : has_name name (slot_at slots place) ≡ true
  pub others : (other : ℕ) → other ≢ place → has_name name (slot_at slots other) ≡ false

-- by the name of each file the map finds its place
abbrev pub FindsSlots : {S : Type 0} → HashMap (Vec ℕ) ℕ S → List Slot → Type 0
FindsSlots places slots =
    (name : List ℕ) (place : ℕ) → has_name name (slot_at slots place) ≡ true → get_by (λ key. bytes_eq name key.items) places ≡ Some place

-- each name is UTF-8
abbrev pub HaveTexts : List Slot → Type 0
HaveTexts slots = All (λ (slot : Slot). IsUtf8 slot.name) slots

pub record AreFound {S : Type 0} (places : HashMap (Vec ℕ) ℕ S) (slots : List Slot) : Type 0 where
  pub found : FindsSlots places slots
  pub texts : HaveTexts slots

-- there is a file at the place whose name lies below the folder
abbrev pub is_listed : List ℕ → Slot → Bool
is_listed folder slot = is_some slot.content && lies_under folder slot.name

-- the names of those files, in order
abbrev pub names_in : List ℕ → List Slot → List (List ℕ)
names_in folder slots = map (λ (slot : Slot). slot.name) (filter (is_listed folder) slots)
