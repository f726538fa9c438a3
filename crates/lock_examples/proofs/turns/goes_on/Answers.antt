use Rattle.lock_examples.proofs.ToyLemmas.{listener_may_end}
use Rattle.lock_examples.proofs.turns.goes_on.Goals as goal

pub done-requires-clause-left : goal.done-requires-clause-left
done-requires-clause-left g c =
    listener_may_end _ _ _ _ c.step-made.new.self c.step-made.result c.turn-turn.ensures.turn c.requires.number
    c.deref_mut.ensures.value c.step-made.ensures.step c.step-made.ensures.opening
