use Rattle.lock_examples.proofs.ToyLemmas.{ready}
use Rattle.lock_examples.proofs.opening.opened_with.Goals as goal

pub returns-in-Ok-clause-ready : goal.returns-in-Ok-clause-ready
returns-in-Ok-clause-ready g c = λ p pass at. ready _ p pass.seat.me (c.in-Ok.ensures.fresh p pass at)
