use Rattle.board_book.proofs.FiledLemmas.{filed_first}
use Rattle.board_book.proofs.filed.FiledState.opening.Goals as goal

pub invariant_of-result : goal.invariant_of-result
invariant_of-result c =
    rw c.in_ok-opening.ensures
    (filed_first c.args.slots c.args.children c.args.shape c.in_ok-make.field-0 c.in_ok-make.ensures)
