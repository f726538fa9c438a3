use Rattle.std.proofs.Common.{rules, ap, ◌∙◌}
use Rattle.table_rule.specs.declared.view.View.{View}
use Rattle.lock_examples.proofs.ToyLemmas.{has_workers, may_leave}
use Rattle.lock_examples.proofs.idles.credits.Goals as goal

pub done-requires-clause-left : goal.done-requires-clause-left
done-requires-clause-left g c = may_leave _ _ (ap (λ (u : View). u.turn) c.turn-turn.ensures.turn.view)

pub credit-requires-clause-may : goal.credit-requires-clause-may
credit-requires-clause-may g c = record {
  number = search rules;
  none = search rules;
  few = search rules;
  there = has_workers _ _ c.turn-turn.result.kept.value _ c.turn-turn.ensures.turn c.length.ensures.is (search rules);
}

pub done-requires-2-clause-left : goal.done-requires-2-clause-left
done-requires-2-clause-left g c =
    may_leave _ _ (ap (λ (u : View). u.turn) c.credit.ensures.credited.1.0 ∙ ap (λ (u : View). u.turn) c.turn-turn.ensures.turn.view)
