use Rattle.std.proofs.Common.{Some, arith, refl, ◌∙◌}
use Rattle.std.proofs.lemmas.List.{map-set}
use Rattle.conn_slots.proofs.EntryLemmas.{live_entry, live_item, live_read, item_taken}
use Rattle.conn_slots.proofs.LiveLemmas.{live_within}
use Rattle.conn_slots.proofs.VacantLemmas.{table_replace}
use Rattle.conn_slots.proofs.Slots.item_mut.Goals as goal

pub invariant_of-self-lent : goal.invariant_of-self-lent
invariant_of-self-lent g c w =
    let es = c.self.inside.entries.items in
    let live = rw (← c.self.view_is) at c.requires in
    let entry = live_entry {T = g.row.T.Denot} es c.args.name c.index_mut.result.now live c.index_mut.ensures.value in
    table_replace {T = g.row.T.Denot} es c.args.name.slot c.self.inside.free c.self.inside.head c.index_mut.result.now (record c.index_mut.result.now { item = Some w }) c.self.invariant
    (live_read es c.args.name c.index_mut.result.now live c.index_mut.ensures.value)
    (item_taken c.index_mut.result.now entry.2) (omega arith, λ _. omega arith) refl

pub returns : goal.returns
returns g c =
    let es = c.self.inside.entries.items in
    let live = rw (← c.self.view_is) at c.requires in
    let entry = live_entry {T = g.row.T.Denot} es c.args.name c.index_mut.result.now live c.index_mut.ensures.value in
    let item = live_item {T = g.row.T.Denot} es c.args.name c.index_mut.result.now live c.index_mut.ensures.value in (
      (refl {a = c.item_mut.result.ghost_name}, λ w. rw (map-set, entry.1, ← c.self.view_is) refl),
      record { writes_back = tt; item = rw (← c.self.view_is) (item ∙ c.item_mut.ensures.item) },
    )

pub index_mut-requires : goal.index_mut-requires
index_mut-requires g c =
    let live = rw (← c.self.view_is) at c.requires in
    rw c.self.inside.entries.ok.0 (live_within {T = g.row.T.Denot} c.self.inside.entries.items c.args.name live)

pub item_mut-requires : goal.item_mut-requires
item_mut-requires g c =
    let live = rw (← c.self.view_is) at c.requires in
    (live_entry {T = g.row.T.Denot} c.self.inside.entries.items c.args.name c.index_mut.result.now live c.index_mut.ensures.value).2
