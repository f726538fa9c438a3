use Rattle.std.proofs.Common.{◌∙◌}
use Rattle.board_tests.proofs.NotedLemmas.{taken_by}
use Rattle.board_tests.proofs.hand.answer.Goals as goal

pub answer-requires-2-clause-asked : goal.answer-requires-2-clause-asked
answer-requires-2-clause-asked c = taken_by _ _ _ _ _ c.in-Ok.ensures.note c.requires.asked
