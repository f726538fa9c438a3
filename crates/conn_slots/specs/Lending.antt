-- What a table of slots ends as, where a `&mut` to an item is returned.
use Rattle.std.specs.Prelude.{Option}
use Rattle.std.specs.Borrow.{LendsIf, Fml, RattleType, MutBor}
use Rattle.mpm_base.specs.declared.conn.ConnName.{ConnName}
use Rattle.conn_slots.specs.Slots.{SeenSlots, with_item}
use Rattle.conn_slots.specs.contracts.Slots as slots

-- the table with this item written under a live name
abbrev pub written_in : {T : Type 0} → SeenSlots T → ConnName → T → SeenSlots T
written_in table name x = record table { slots = with_item table.slots name x }

module _ (T : RattleType) where
  -- once the borrow r ends, the name has the last item written through r, where r is a reference, and at None the table stays as it
  -- is
  abbrev pub lends_live : MutBor (SeenSlots T.Denot) → ConnName → Option (MutBor T.Denot) → Fml
  lends_live s name r = LendsIf (slots.the_row T) T s r (written_in s.now name) s.now
