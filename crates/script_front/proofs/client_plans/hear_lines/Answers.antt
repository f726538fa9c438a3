use Rattle.std.proofs.Common.{List, ℕ, map, take, take_all, ap, sym, ◌∙◌}
use Rattle.mpm_base.specs.declared.script_line.ScriptLine.{ScriptLine}
use Rattle.script_front.specs.PlayedPartsInside.{plan_after, plan_after_line}
use Rattle.script_front.proofs.PlanLemmas.{plans-more, plans-still, plans-whole}
use Rattle.script_front.proofs.client_plans.hear_lines.Goals as goal
use Rattle.script_front.proofs.client_plans.hear_lines.Goals.{in-Some+in_ok-hear_act, in_default}

pub loop-line-preserved : goal.loop-line-preserved
loop-line-preserved c =
    let lines = c.args.lines.now in
    let names = c.args.chains.now in
    let i = c.loop-line.line-index in
    elim c.match-act_in.branch [
      | in-Some+in_ok-hear_act w ↦
          rw w.awaited-is
          (w.in_ok-hear_act.ensures.tells (plan_after (take i lines)) c.loop-line.invariant
          ∙ ap (λ (l : ScriptLine). map (λ (name : List ℕ). plan_after_line name l (plan_after (take i lines) name)) names) (sym w.in-Some.ensures.some)
          ∙ plans-more lines i c.line-item.result c.loop-line-test.true c.line-item.is names)
      | in_default w ↦
          rw w.awaited-is
          (c.loop-line.invariant ∙ plans-still lines i c.line-item.result c.loop-line-test.true c.line-item.is w.in_default.ensures.none names)
    ]

pub returns : goal.returns
returns c =
    let lines = c.args.lines.now in
    c.loop-line.invariant ∙ ap (λ (ls : List ScriptLine). map (plan_after ls) c.args.chains.now) (take_all c.loop-line.line-index lines c.loop-line-test.false)
    ∙ plans-whole lines c.args.chains.now
