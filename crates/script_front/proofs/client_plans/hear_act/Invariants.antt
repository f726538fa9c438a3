use Rattle.std.proofs.Common.{◌≡◌, List, ℕ, length, map}
use Rattle.mpm_base.specs.declared.script_line.ScriptLine.TheVariants as line
use Rattle.script_front.specs.PlayedPartsInside.{plan_after_line, plans}
use Rattle.script_front.specs.declared.client_plans.LinkPlan.{LinkPlan}
use Rattle.script_front.proofs.WalkLemmas.{IsPlaceOf, Walked, reach}
use Rattle.script_front.proofs.client_plans.hear_act.Given as goal

abbrev pub invariant-places : goal.invariant-places
invariant-places l = record {
  each : length l.awaited.items ≡ length l.chains;
  at : IsPlaceOf l.name l.chains l.next;
  walks : (plan : List ℕ → LinkPlan) → plans l.fn.awaited.items ≡ map plan l.chains
      → Walked l.name l.chains (map plan l.chains) (map (λ name. plan_after_line name (line.Client l.name l.act) (plan name)) l.chains) (plans l.awaited.items) l.next;
}

abbrev pub decreases-places : goal.decreases-places
decreases-places l = reach l.next
