-- What a table of slots, and one of its entries, end as where a `&mut` to the item is returned.
use Rattle.std.specs.Prelude.{Some}
use Rattle.std.specs.Borrow.{Lends, Fml, RattleType, MutBor}
use Rattle.mpm_base.specs.declared.conn.ConnName.{ConnName}
use Rattle.conn_slots.specs.Slots.{SeenSlots}
use Rattle.conn_slots.specs.Lending.{written_in}
use Rattle.conn_slots.specs.declared.Entry.{Entry}
use Rattle.conn_slots.specs.contracts.Entry as entry
use Rattle.conn_slots.specs.contracts.Slots as slots

module _ (T : RattleType) where
  -- once the borrow r ends, the name has the last item written through r
  abbrev pub lends_item : MutBor (SeenSlots T.Denot) → ConnName → MutBor T.Denot → Fml
  lends_item s name r = Lends (slots.the_row T) T s r (written_in s.now name)

  -- once the borrow r ends, the entry has the last item written through r
  abbrev pub lends_entry : MutBor (Entry T.Denot) → MutBor T.Denot → Fml
  lends_entry e r = Lends (entry.the_row T) T e r (λ x. record e.now { item = Some x })
