use Rattle.std.proofs.Common.{ap, ◌∙◌}
use Rattle.std.specs.Prelude.{slice_get}
use Rattle.recycle_perch.specs.Looking.{AreOf}
use Rattle.turn_tests.proofs.OpeningLemmas.{at_first, last_has}
use Rattle.turn_tests.proofs.carriers.next_looks.Goals as goal

pub returns-clause-all : goal.returns-clause-all
returns-clause-all c =
    λ i looks at. c.requires i looks (ap (λ l. slice_get l i) c.pop.ensures.items ∙ at_first c.pop.new.self.items _ i looks at)

pub returns-clause-last : goal.returns-clause-last
returns-clause-last c =
    last_has (AreOf c.args.perch.now.places) _ c.pop.new.self.items c.pop.result c.pop.ensures.items c.requires
