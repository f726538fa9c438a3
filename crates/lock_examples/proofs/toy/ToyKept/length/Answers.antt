use Rattle.std.proofs.Common.{length, rules, ap, sym, ◌∙◌}
use Rattle.lock_examples.specs.Toy.{SeenToy}
use Rattle.lock_examples.proofs.EntryLemmas.{all_in}
use Rattle.lock_examples.proofs.toy.ToyKept.length.Goals as goal

pub returns-clause-is : goal.returns-clause-is
returns-clause-is c =
    all_in c.args.self.now c.len.result c.self.inside.folded c.self.inside.steps c.self.invariant.0 (search rules ∙ ap length c.self.invariant.1)
    (ap (λ (t : SeenToy). t.folded) (sym c.self.view_is)) (ap (λ (t : SeenToy). t.count) (sym c.self.view_is))
