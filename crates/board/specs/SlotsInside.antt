-- How far the slots of a board are used, by what they have and by their rows.
use Rattle.std.specs.Prelude.{◌≡◌, ℕ, ◌+◌, Bool, true, false, List, map, is_some, nat_lt}
use Rattle.conn_machine.specs.declared.row.Place.{Place}
use Rattle.conn_machine.specs.declared.row.Place.TheVariants.{Vacant, Spent, Held, Parked, Queued, Working}
use Rattle.conn_machine.specs.declared.row.Row.{Row}
use Rattle.conn_slots.specs.Slots.{Slot, most_lives}

-- how far a slot is used: the life of its connection, or of its next one; whether it has one; and whether that life is one of a slot
pub record SlotUse : Type 0 where
  pub life : ℕ
  pub taken : Bool
  pub lasts : Bool

-- how far a slot is used by the item that it has
abbrev pub use_of_slot : {T : Type 0} → Slot T → SlotUse
use_of_slot s = record { life = s.life; taken = is_some s.item; lasts = nat_lt s.life most_lives }

-- a slot that has a connection, in this life
abbrev pub taken_in : ℕ → SlotUse
taken_in life = record { life = life; taken = true; lasts = true }

-- how far a slot is used by the place and the life of its row; behind its last life there is none
abbrev pub use_at : Place → ℕ → SlotUse
use_at Vacant life = record { life = life; taken = false; lasts = true }
use_at Spent life = record { life = life + 1; taken = false; lasts = false }
use_at Held life = taken_in life
use_at (Parked kind) life = taken_in life
use_at Queued life = taken_in life
use_at (Working cell phase) life = taken_in life

-- how far a slot is used by its row
abbrev pub use_of_row : Row → SlotUse
use_of_row r = use_at r.place r.life

-- each slot is used as far as its row says
abbrev pub AreUsedAlike : {T : Type 0} → List (Slot T) → List Row → Type 0
AreUsedAlike slots rows = map use_of_slot slots ≡ map use_of_row rows
