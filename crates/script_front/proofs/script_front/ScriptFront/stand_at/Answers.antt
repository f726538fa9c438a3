use Rattle.std.proofs.Common.{◌≤◌}
use Rattle.script_front.proofs.PlayedLemmas.{played-moment}
use Rattle.script_front.proofs.script_front.ScriptFront.stand_at.Goals as goal

pub invariant_of-self : goal.invariant_of-self
invariant_of-self c =
    let s = c.self.inside in
    let later : s.moment ≤ c.args.moment = rw (← c.self.view_is) at c.requires in
    played-moment s.script s.happened s.begun s.moment s.arrived s.accepted s.hushed s.clients s.commands s.ends c.self.invariant c.args.moment later
