use Rattle.std.proofs.Common.{rules, ◌≡◌, false}
use Rattle.socket_links.specs.EventsInside.{has_slot}
use Rattle.socket_links.proofs.EventLemmas.{distinct_more}
use Rattle.socket_links.proofs.events.give.Goals as goal

pub returns-then-not-has_slot-clause-distinct : goal.returns-then-not-has_slot-clause-distinct
returns-then-not-has_slot-clause-distinct c =
    let told : c.has_slot.result ≡ has_slot c.args.ready.now c.args.slot = rw (← c.slots.ensures.is) c.has_slot.ensures in
    let absent : has_slot c.args.ready.now c.args.slot ≡ false = search rules in
    rw c.add.ensures (distinct_more c.args.ready.now c.args.slot c.requires.distinct absent)
