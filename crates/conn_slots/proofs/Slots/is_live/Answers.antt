use Rattle.std.proofs.Common.{◌∙◌}
use Rattle.conn_slots.proofs.LiveLemmas.{entry_there, found_same, found_other, none_past}
use Rattle.conn_slots.proofs.Slots.is_live.Goals as goal

pub returns-then-entry-from : goal.returns-then-entry-from
returns-then-entry-from g c =
    let es = c.self.inside.entries.items in
    let e = c.in-Some.entry.now in
    let there = entry_there {T = g.row.T.Denot} es c.deref.result.now c.args.name.slot e c.deref.ensures.value c.in-Some.ensures.lookup.3.0 c.in-Some.ensures.lookup.1 in
    rw (← c.self.view_is)
    (c.is_some.ensures ∙ found_same {T = g.row.T.Denot} es c.args.name e c.from.result there c.from.ensures c.if-entry-from.true)

pub returns-else-entry-from : goal.returns-else-entry-from
returns-else-entry-from g c =
    let es = c.self.inside.entries.items in
    let e = c.in-Some.entry.now in
    let there = entry_there {T = g.row.T.Denot} es c.deref.result.now c.args.name.slot e c.deref.ensures.value c.in-Some.ensures.lookup.3.0 c.in-Some.ensures.lookup.1 in
    rw (← c.self.view_is)
    (found_other {T = g.row.T.Denot} es c.args.name e c.from.result there c.from.ensures c.if-entry-from.false)

pub returns-in-None : goal.returns-in-None
returns-in-None g c =
    rw (← c.self.view_is)
    (none_past {T = g.row.T.Denot} c.self.inside.entries.items c.deref.result.now c.args.name c.deref.ensures.value c.in-None.ensures.lookup.3)
