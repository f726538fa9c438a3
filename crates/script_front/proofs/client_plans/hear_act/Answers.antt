use Rattle.std.proofs.Common.{length-set, ◌∙◌, arith}
use Rattle.script_front.proofs.PlanLemmas.{plan-start, plan-step}
use Rattle.script_front.proofs.WalkLemmas.{at-earlier, at-last}
use Rattle.script_front.proofs.client_plans.hear_act.Goals as goal

pub places-init : goal.places-init
places-init c =
    let names = c.args.chains.now in
    let name = c.args.name.now in
    record {
      each = c.requires;
      at = at-last name names _ c.last-next.result (omega arith) c.last-next.ensures;
      walks = λ plan is. plan-start names name c.args.act.now plan c.args.awaited.now.items c.last-next.result is c.last-next.ensures;
    }

pub places-preserved : goal.places-preserved
places-preserved c =
    let names = c.args.chains.now in
    let name = c.args.name.now in
    let place = c.in-Some.place in
    let was = rw c.in-Some.is at c.places.invariant in
    record {
      each = length-set c.places.awaited.items place _ ∙ c.places.invariant.each;
      at = at-earlier name names place c.earlier-next.result was.at c.earlier-next.ensures;
      walks = λ plan is. plan-step names name c.args.act.now plan c.places.awaited.items place c.index_mut-one.result.now _ c.earlier-next.result (was.walks plan is) c.places.invariant.each c.index_mut-one.ensures.value c.in_ok-hear.ensures c.earlier-next.ensures;
    }
