use Rattle.std.proofs.Common.{subst}
use Rattle.conn_machine.specs.Runs.{IsInPassOrderFrom}
use Rattle.board_book.specs.Book.{SeenBook}
use Rattle.board_book.proofs.book.Book.show.Goals as goal

pub returns-clause-order : goal.returns-clause-order
returns-clause-order c =
    subst (λ (v : SeenBook). IsInPassOrderFrom v.folded v.history) c.self.view_is c.self.invariant.is_history.order
