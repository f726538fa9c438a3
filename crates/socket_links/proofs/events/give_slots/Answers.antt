use Rattle.std.proofs.Common.{rules, refl, arith}
use Rattle.std.proofs.lemmas.Grind.{common_steps}
use Rattle.socket_links.proofs.EventLemmas.{slots_none, slots_step}
use Rattle.socket_links.proofs.events.give_slots.Goals as goal

pub loop-event-init : goal.loop-event-init
loop-event-init c = record {
  slots = slots_none c.args.ready.now c.requires.empty;
  few = search rules;
  arrivals = refl;
  control = refl;
}

pub loop-event-preserved : goal.loop-event-preserved
loop-event-preserved c = record {
  slots = slots_step _ _ _ _ _ c.loop-event-test.true c.loop-event.invariant.slots c.note_event.ensures.adds c.note_event.ensures.distinct;
  few = omega arith;
  arrivals = grind (arith, common_steps);
  control = grind (arith, common_steps);
}
