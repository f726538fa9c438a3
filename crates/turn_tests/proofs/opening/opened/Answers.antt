use Rattle.std.proofs.Common.{refl}
use Rattle.turn_tests.proofs.OpeningLemmas.{opens}
use Rattle.turn_tests.proofs.opening.opened.Goals as goal

pub make-requires-2-clause-new : goal.make-requires-2-clause-new
make-requires-2-clause-new c =
    opens c.in_ok-board.board 64 32 c.args.passes _ refl c.requires.passes.0 c.requires.passes.1 c.in_ok-board.ensures.base c.in_ok-board.ensures.folded
    c.in_ok-board.ensures.history c.in_ok-board.ensures.passes c.in_ok-board.ensures.ended

pub returns-in-Ok-clause-fresh : goal.returns-in-Ok-clause-fresh
returns-in-Ok-clause-fresh c = λ p pass at. (_, p, c.in-Ok.ensures.fresh p pass at)
