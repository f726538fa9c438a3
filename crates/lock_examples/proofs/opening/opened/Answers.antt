use Rattle.std.proofs.Common.{◌≡◌, rules, sym, subst}
use Rattle.table_rule.specs.Tie.{IsNew}
use Rattle.lock_examples.specs.Toy.{toy_ledger}
use Rattle.lock_examples.proofs.ToyLemmas.{opens}
use Rattle.lock_examples.proofs.opening.opened.Goals as goal

pub opened_with-requires-clause-new : goal.opened_with-requires-clause-new
opened_with-requires-clause-new c =
    let is : c.in_ok-toy.toy.value ≡ record { folded = 0; count = 0; passes = c.args.passes } = search rules in
    subst (λ t. IsNew (toy_ledger t)) (sym is) (opens c.args.passes c.requires.passes.0 c.requires.passes.1)
