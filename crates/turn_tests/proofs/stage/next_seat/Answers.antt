use Rattle.crossbeam_queue.specs.Passes.{IsPassOf}
use Rattle.turn_tests.proofs.OpeningLemmas.{last_has}
use Rattle.turn_tests.proofs.stage.next_seat.Goals as goal

pub returns-clause-last : goal.returns-clause-last
returns-clause-last g c =
    last_has (λ seat. IsPassOf c.args.queue.now.ring seat) _ c.pop.new.self.items c.pop.result c.pop.ensures.items c.requires
