use Rattle.std.proofs.Common.{◌≡◌, ◌+◌, length, refl, sym, ◌∙◌, arith}
use Rattle.timeout_queues.specs.RingsInside.{ring_number}
use Rattle.timeout_queues.proofs.KeptLemmas.{in_ring_head, in_ring_kept}
use Rattle.timeout_queues.proofs.is_in_ring.Goals as goal

pub returns-in-Some : goal.returns-in-Some
returns-in-Some c =
    let own : c.head_of.result ≡ length c.args.slots.now + ring_number c.in-Some.entry.kind = omega (arith, c.head_of.ensures) in
    in_ring_kept c.args.slots.now c.args.place c.head_of.result c.args.head c.in-Some.entry _ (sym c.kept_at.ensures ∙ c.in-Some.is) own refl

pub returns-in-None : goal.returns-in-None
returns-in-None c = in_ring_head c.args.slots.now c.args.place c.args.head _ c.requires.head refl
