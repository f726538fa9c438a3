use Rattle.std.proofs.Common.{sym, subst}
use Rattle.table_rule.specs.Tie.{IsNew}
use Rattle.lock_examples.specs.Toy.{toy_ledger}
use Rattle.lock_examples.proofs.ToyLemmas.{opens}
use Rattle.lock_examples.proofs.opening.opened_plain.Goals as goal

pub opened_with-requires-clause-new : goal.opened_with-requires-clause-new
opened_with-requires-clause-new c =
    subst (λ t. IsNew (toy_ledger t)) (sym c.new.ensures) (opens c.args.passes c.requires.passes.0 c.requires.passes.1)
