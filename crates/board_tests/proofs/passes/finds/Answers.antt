use Rattle.board_tests.proofs.BoardLemmas.{may_stay}
use Rattle.board_tests.proofs.passes.finds.Goals as goal

pub done-requires-clause-left : goal.done-requires-clause-left
done-requires-clause-left g c = may_stay _ _ c.turn-turn.result.kept c.turn-turn.ensures.turn
