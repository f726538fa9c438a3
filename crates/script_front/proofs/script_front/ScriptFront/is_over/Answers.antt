use Rattle.std.proofs.Common.{length, ap}
use Rattle.script_front.specs.PlayedPartsInside.{SeenClients}
use Rattle.script_front.proofs.LookLemmas.{names-looks}
use Rattle.script_front.proofs.PlayedLemmas.{played-clients}
use Rattle.script_front.proofs.script_front.ScriptFront.is_over.Goals as goal

pub invariant_of-self : goal.invariant_of-self
invariant_of-self c =
    let s = c.self.inside in
    let rest = c.find_closed.ensures.rest in
    played-clients s.script s.happened s.begun s.moment s.arrived s.accepted s.hushed s.clients s.commands s.ends c.self.invariant c.find_closed.new.self
    (ap (λ (cs : SeenClients). cs.waiting) rest) (ap (λ (cs : SeenClients). length cs.watched) rest)
    (names-looks s.clients.clients c.find_closed.new.self.clients c.find_closed.ensures.looks)
