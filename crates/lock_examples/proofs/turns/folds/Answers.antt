use Rattle.lock_examples.proofs.ToyLemmas.{listener_may_end_folded}
use Rattle.lock_examples.proofs.turns.folds.Goals as goal

pub done-requires-clause-left : goal.done-requires-clause-left
done-requires-clause-left g c =
    listener_may_end_folded _ _ _ _ c.fold_between-made.new.self c.turn-turn.ensures.turn c.requires.number
    c.deref_mut.ensures.value c.fold_between-made.ensures.folds c.fold_between-made.ensures.opening
