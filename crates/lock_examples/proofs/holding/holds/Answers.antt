use Rattle.lock_examples.proofs.ToyLemmas.{may_stay}
use Rattle.lock_examples.proofs.holding.holds.Goals as goal

pub done-requires-clause-left : goal.done-requires-clause-left
done-requires-clause-left g c = may_stay _ _ _ c.turn-turn.ensures.turn
