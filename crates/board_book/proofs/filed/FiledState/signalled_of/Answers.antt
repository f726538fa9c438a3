use Rattle.board_book.proofs.FiledLemmas.{due_of_found}
use Rattle.board_book.proofs.filed.FiledState.signalled_of.Goals as goal

pub returns : goal.returns
returns c = due_of_found c.args.self.now c.args.child c.first_in.result c.requires c.first_in.ensures
