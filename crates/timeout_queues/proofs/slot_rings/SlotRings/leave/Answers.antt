use Rattle.std.proofs.Common.{sym, ◌∙◌}
use Rattle.timeout_queues.specs.RingsInside.{by_number}
use Rattle.timeout_queues.proofs.PlaceLemmas.{rings_unpark}
use Rattle.timeout_queues.proofs.SlotLemmas.{slot_holds}
use Rattle.timeout_queues.proofs.slot_rings.SlotRings.leave.Goals as goal

pub invariant_of-self : goal.invariant_of-self
invariant_of-self c =
    let slots = c.self.inside.filed.items in
    let within = rw (← c.self.view_is) at c.requires in
    let held = slot_holds slots c.args.slot c.index.result.now within c.index.ensures (sym c.is_some.ensures ∙ c.if-is_some.true) in
    rw (c.remove.ensures.before, c.remove.ensures.behind)
    (rings_unpark by_number slots c.self.inside.rings.before.items c.self.inside.rings.behind.items c.args.slot held.0 c.self.invariant held.1)
