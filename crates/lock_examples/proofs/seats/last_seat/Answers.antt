use Rattle.std.proofs.Common.{ap, ◌∙◌}
use Rattle.std.specs.Prelude.{slice_get}
use Rattle.crossbeam_queue.specs.Passes.{IsPassOf}
use Rattle.lock_examples.proofs.ToyLemmas.{at_first, last_has}
use Rattle.lock_examples.proofs.seats.last_seat.Goals as goal

pub returns-clause-seats : goal.returns-clause-seats
returns-clause-seats g c =
    λ i seat at. c.requires.seats i seat (ap (λ l. slice_get l i) c.pop.ensures.items ∙ at_first c.pop.new.self.items _ i seat at)

pub returns-clause-last : goal.returns-clause-last
returns-clause-last g c =
    last_has (IsPassOf c.args.queue.now.ring) _ c.pop.new.self.items c.pop.result c.pop.ensures.items c.requires.seats
