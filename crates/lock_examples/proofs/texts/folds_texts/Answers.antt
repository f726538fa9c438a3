use Rattle.lock_examples.proofs.TextLemmas.{may_fold}
use Rattle.lock_examples.proofs.texts.folds_texts.Goals as goal

pub done-requires-clause-left : goal.done-requires-clause-left
done-requires-clause-left g c = may_fold _ _ c.turn-turn.result.kept _ c.turn-turn.ensures.turn c.requires.number c.fold.ensures
