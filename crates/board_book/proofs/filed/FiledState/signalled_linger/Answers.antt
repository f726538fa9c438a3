use Rattle.board_book.proofs.FiledLemmas.{drain_found}
use Rattle.board_book.proofs.filed.FiledState.signalled_linger.Goals as goal

pub returns : goal.returns
returns c = drain_found c.args.self.now c.first_in.result c.first_in.ensures
