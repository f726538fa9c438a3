use Rattle.std.proofs.Common.{◌≡◌, ◌+◌, [], length, refl, ap, ◌∙◌, arith}
use Rattle.stand_ins.specs.HistoryInside.{ended}
use Rattle.stand_ins.specs.declared.history.Step.TheVariants as step
use Rattle.stand_ins.proofs.HistoryLemmas.{count-more, history-end}
use Rattle.stand_ins.proofs.history.History.end.Goals as goal

pub returns-clause-ok : goal.returns-clause-ok
returns-clause-ok c = rw (← c.self.view_is, c.in_ok-push_back.ensures.items, history-end _ _ refl refl) refl

pub invariant_of-self-2 : goal.invariant_of-self-2
invariant_of-self-2 c =
    let steps = c.self.inside.steps.items in
    let more : length (ended [] c.push_back.new.self.items) ≡ length (ended [] steps) + 1 =
    ap (λ items. length (ended [] items)) c.in_ok-push_back.ensures.items ∙ count-more [] steps step.End refl in
    omega (arith, more, c.in-Some.ensures.1, c.self.invariant)
