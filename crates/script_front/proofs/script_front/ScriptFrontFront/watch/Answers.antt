use Rattle.std.proofs.Common.{Some, length, ap, ◌∙◌, length-set}
use Rattle.script_front.specs.PlayedPartsInside.{SeenClients}
use Rattle.script_front.proofs.PlayedLemmas.{played-clients}
use Rattle.script_front.proofs.SignalLemmas.{names, names-watch}
use Rattle.script_front.proofs.script_front.ScriptFrontFront.watch.Goals as goal

pub invariant_of-self : goal.invariant_of-self
invariant_of-self c =
    let s = c.self.inside in
    let is = c.watch.ensures in
    played-clients s.script s.happened s.begun s.moment s.arrived s.accepted s.hushed s.clients s.commands s.ends c.self.invariant c.watch.new.self
    (ap (λ (cs : SeenClients). cs.waiting) is)
    (ap (λ (cs : SeenClients). length cs.watched) is ∙ length-set s.clients.watched c.rank.result (Some c.args.name))
    (ap (λ (cs : SeenClients). names cs.clients) is ∙ names-watch c.rank.result s.clients.clients)
