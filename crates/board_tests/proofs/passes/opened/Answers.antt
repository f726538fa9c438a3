use Rattle.std.proofs.Common.{refl}
use Rattle.board_tests.proofs.BoardLemmas.{fresh, opens}
use Rattle.board_tests.proofs.passes.opened.Goals as goal

pub make-requires-2-clause-new : goal.make-requires-2-clause-new
make-requires-2-clause-new c = opens c.in_ok-board.board 1 2 _ refl c.in_ok-board.ensures.base c.in_ok-board.ensures.folded c.in_ok-board.ensures.history c.in_ok-board.ensures.passes c.in_ok-board.ensures.ended

pub returns-in-Ok-clause-free : goal.returns-in-Ok-clause-free
returns-in-Ok-clause-free c = λ p pass at. fresh _ p pass.seat.me (c.in-Ok.ensures.fresh p pass at)
