use Rattle.std.proofs.Common.{[], ap, ◌∙◌}
use Rattle.script_front.specs.declared.client_parts.ClientParts.{ClientParts}
use Rattle.script_front.specs.PlayedPartsInside.{plan_after, plans}
use Rattle.script_front.specs.ScriptFront.{no_name_yet}
use Rattle.script_front.specs.Signals.{new_client}
use Rattle.script_front.proofs.ClientLemmas.{names-more, names-same, named-more, unnamed-more}
use Rattle.script_front.proofs.client_parts.named_parts.Goals as goal
use Rattle.script_front.proofs.client_parts.named_parts.Goals.{in-Some+in_ok-add, in_default}

pub loop-line-preserved : goal.loop-line-preserved
loop-line-preserved c =
    let lines = c.args.lines.now in
    let loop = c.loop-line in
    let i = c.loop-line.line-index in
    elim c.match-made_by.branch [
      | in-Some+in_ok-add w ↦ record {
        chains = ap (λ (p : ClientParts). p.chains) w.parts-is ∙ w.in_ok-add.ensures.chains ∙ names-more lines i _ _ _ c.loop-line-test.true c.line-item.is w.in-Some.ensures.some loop.invariant.chains;
        waiting = ap (λ (p : ClientParts). plans p.awaited.items) w.parts-is ∙ w.in_ok-add.ensures.waiting ∙ named-more (plan_after []) lines i _ _ _ c.loop-line-test.true c.line-item.is w.in-Some.ensures.some loop.invariant.waiting;
        clients = ap (λ (p : ClientParts). p.clients.items) w.parts-is ∙ w.in_ok-add.ensures.clients ∙ named-more new_client lines i _ _ _ c.loop-line-test.true c.line-item.is w.in-Some.ensures.some loop.invariant.clients;
        watched = ap (λ (p : ClientParts). p.watched.items) w.parts-is ∙ w.in_ok-add.ensures.watched ∙ named-more no_name_yet lines i _ _ _ c.loop-line-test.true c.line-item.is w.in-Some.ensures.some loop.invariant.watched;
      }
      | in_default w ↦ record {
        chains = ap (λ (p : ClientParts). p.chains) w.parts-is ∙ names-same lines i _ _ c.loop-line-test.true c.line-item.is w.in_default.ensures.none loop.invariant.chains;
        waiting = ap (λ (p : ClientParts). plans p.awaited.items) w.parts-is ∙ unnamed-more (plan_after []) lines i _ _ c.loop-line-test.true c.line-item.is w.in_default.ensures.none loop.invariant.waiting;
        clients = ap (λ (p : ClientParts). p.clients.items) w.parts-is ∙ unnamed-more new_client lines i _ _ c.loop-line-test.true c.line-item.is w.in_default.ensures.none loop.invariant.clients;
        watched = ap (λ (p : ClientParts). p.watched.items) w.parts-is ∙ unnamed-more no_name_yet lines i _ _ c.loop-line-test.true c.line-item.is w.in_default.ensures.none loop.invariant.watched;
      }
    ]
