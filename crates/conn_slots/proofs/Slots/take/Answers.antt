use Rattle.std.proofs.Common.{◌+◌, arith, refl, sym, ◌∙◌}
use Rattle.std.proofs.lemmas.Bool.{lt-ltb, le-ltb}
use Rattle.std.proofs.lemmas.List.{map-set}
use Rattle.conn_slots.proofs.EntryLemmas.{live_entry, live_item, live_read, item_taken}
use Rattle.conn_slots.proofs.MapLemmas.{take_updates}
use Rattle.conn_slots.proofs.LawLemmas.{taken_never_live}
use Rattle.conn_slots.proofs.LiveLemmas.{live_within, lives_at, dead_item, dead_updates, free_fits}
use Rattle.conn_slots.proofs.VacantLemmas.{table_vacate, table_replace}
use Rattle.conn_slots.proofs.Slots.take.Goals as goal
use Rattle.conn_slots.proofs.Slots.take.Goals.{then-name-lt4294967295, else-name-lt4294967295}

pub invariant_of-self : goal.invariant_of-self
invariant_of-self g c =
    let es = c.self.inside.entries.items in
    let e = c.index_mut.result.now in
    let live = rw (← c.self.view_is) at (sym c.is_live.ensures ∙ c.if-not-is_live.false) in
    let entry = live_entry {T = g.row.T.Denot} es c.args.name e live c.index_mut.ensures.value in
    table_vacate {T = g.row.T.Denot} es c.args.name.slot c.self.inside.free c.self.inside.head e c.empty-item.new.self c.self.invariant
    (live_read es c.args.name e live c.index_mut.ensures.value) (item_taken e entry.2)
    (rw c.empty-item.ensures.emptied (omega (arith, entry.1), λ some. absurd (cc)))
    (rw c.empty-item.ensures.emptied (lt-ltb (e.life + 1) 4294967296 (omega (arith, entry.1))))
    (rw c.empty-item.ensures.emptied refl)

pub invariant_of-self-else-name-lt4294967295 : goal.invariant_of-self-else-name-lt4294967295
invariant_of-self-else-name-lt4294967295 g c =
    let es = c.self.inside.entries.items in
    let e = c.index_mut.result.now in
    let live = rw (← c.self.view_is) at (sym c.is_live.ensures ∙ c.if-not-is_live.false) in
    let entry = live_entry {T = g.row.T.Denot} es c.args.name e live c.index_mut.ensures.value in
    table_replace {T = g.row.T.Denot} es c.args.name.slot c.self.inside.free c.self.inside.head e c.empty-item.new.self c.self.invariant
    (live_read es c.args.name e live c.index_mut.ensures.value) (item_taken e entry.2)
    (rw c.empty-item.ensures.emptied (omega (arith, entry.1), λ some. absurd (cc)))
    (rw c.empty-item.ensures.emptied (le-ltb (e.life + 1) 4294967296 (omega (arith, entry.1))))

pub returns-clause-item : goal.returns-clause-item
returns-clause-item g c =
    let es = c.self.inside.entries.items in
    let live = rw (← c.self.view_is) at (sym c.is_live.ensures ∙ c.if-not-is_live.false) in
    let item = live_item {T = g.row.T.Denot} es c.args.name c.index_mut.result.now live c.index_mut.ensures.value in
    rw (← c.self.view_is) (sym c.empty-item.ensures.item ∙ sym item)

pub returns-clause-emptied : goal.returns-clause-emptied
returns-clause-emptied g c =
    let es = c.self.inside.entries.items in
    let live = rw (← c.self.view_is) at (sym c.is_live.ensures ∙ c.if-not-is_live.false) in
    let entry = live_entry {T = g.row.T.Denot} es c.args.name c.index_mut.result.now live c.index_mut.ensures.value in
    elim c.if-name-lt4294967295.branch [
      | then-name-lt4294967295 w ↦ rw (w.self-is, map-set, c.empty-item.ensures.emptied, entry.1, ← c.self.view_is) refl
      | else-name-lt4294967295 w ↦ rw (w.self-is, map-set, c.empty-item.ensures.emptied, entry.1, ← c.self.view_is) refl
    ]

pub returns-clause-never_again : goal.returns-clause-never_again
returns-clause-never_again g c = rw (returns-clause-emptied g c) (taken_never_live _ _ (sym c.is_live.ensures ∙ c.if-not-is_live.false))

pub returns-clause-updates : goal.returns-clause-updates
returns-clause-updates g c = rw (returns-clause-emptied g c) (take_updates _ _ (sym c.is_live.ensures ∙ c.if-not-is_live.false))

pub returns-then-not-is_live-clause-item : goal.returns-then-not-is_live-clause-item
returns-then-not-is_live-clause-item g c =
    sym (dead_item {T = g.row.T.Denot} c.args.self.now.slots c.args.name (sym c.is_live.ensures ∙ c.if-not-is_live.true))

pub returns-then-not-is_live-clause-updates : goal.returns-then-not-is_live-clause-updates
returns-then-not-is_live-clause-updates g c =
    dead_updates {T = g.row.T.Denot} c.args.self.now.slots c.args.name (sym c.is_live.ensures ∙ c.if-not-is_live.true)

pub index_mut-requires : goal.index_mut-requires
index_mut-requires g c =
    let live = rw (← c.self.view_is) at (sym c.is_live.ensures ∙ c.if-not-is_live.false) in
    rw c.self.inside.entries.ok.0 (live_within {T = g.row.T.Denot} c.self.inside.entries.items c.args.name live)

pub empty-item-requires-clause-some : goal.empty-item-requires-clause-some
empty-item-requires-clause-some g c =
    let live = rw (← c.self.view_is) at (sym c.is_live.ensures ∙ c.if-not-is_live.false) in
    (live_entry {T = g.row.T.Denot} c.self.inside.entries.items c.args.name c.index_mut.result.now live c.index_mut.ensures.value).2

pub empty-item-requires-clause-within : goal.empty-item-requires-clause-within
empty-item-requires-clause-within g c =
    let es = c.self.inside.entries.items in
    let live = rw (← c.self.view_is) at (sym c.is_live.ensures ∙ c.if-not-is_live.false) in
    lives_at {T = g.row.T.Denot} es c.args.name.slot c.index_mut.result.now c.self.invariant.within
    (live_within {T = g.row.T.Denot} es c.args.name live) c.index_mut.ensures.value

pub overflow_add-self : goal.overflow_add-self
overflow_add-self g c = free_fits {T = g.row.T.Denot} c.self.inside.entries.items c.self.inside.head c.self.inside.free c.self.invariant
