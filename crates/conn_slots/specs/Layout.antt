-- How a table of slots is kept.
use Rattle.conn_slots.specs.Slots.{Slot}
use Rattle.conn_slots.specs.declared.Entry.{Entry}

module _ {T : Type 0} where
  -- the slot that an entry stands for
  abbrev pub seen_slot : Entry T → Slot T
  seen_slot e = record { life = e.life; item = e.item }
