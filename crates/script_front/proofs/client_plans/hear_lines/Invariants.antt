use Rattle.std.proofs.Common.{◌≡◌, map, take}
use Rattle.script_front.specs.PlayedPartsInside.{plan_after, plans}
use Rattle.script_front.proofs.client_plans.hear_lines.Given as goal

abbrev pub invariant-loop-line : goal.invariant-loop-line
invariant-loop-line l = plans l.awaited.items ≡ map (plan_after (take l.line-index l.lines)) l.chains
