use Rattle.board.proofs.ClosedLemmas.{board_forgotten}
use Rattle.board.proofs.board.Board.forget.Goals as goal

pub invariant_of-result : goal.invariant_of-result
invariant_of-result g c = board_forgotten _ _ _ _ _ c.self.invariant
