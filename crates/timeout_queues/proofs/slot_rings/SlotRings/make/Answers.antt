use Rattle.std.proofs.Common.{◌≡◌, None, replicate, rules}
use Rattle.timeout_queues.specs.RingsInside.{by_number}
use Rattle.timeout_queues.proofs.PlaceLemmas.{rings_empty}
use Rattle.timeout_queues.proofs.slot_rings.SlotRings.make.Goals as goal

pub invariant_of-result : goal.invariant_of-result
invariant_of-result c =
    let filed : c.in-Ok.filed.items ≡ replicate c.args.slots None = search rules in
    rw filed
    (rings_empty by_number c.args.slots c.in_ok-make.field-0.before.items c.in_ok-make.field-0.behind.items c.requires
    c.in_ok-make.ensures.before c.in_ok-make.ensures.behind)
