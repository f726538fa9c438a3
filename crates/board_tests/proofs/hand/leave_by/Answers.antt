use Rattle.std.proofs.Common.{subst}
use Rattle.board_tests.specs.declared.hand.Turn.{Turn}
use Rattle.board_tests.specs.Hand.{Leaves}
use Rattle.board_tests.proofs.hand.leave_by.Goals as goal

pub park-requires-clause-settled : goal.park-requires-clause-settled
park-requires-clause-settled c = (subst (λ (t : Turn). Leaves t c.args.board.now.book.state c.args.conn) c.in-Parks.is c.requires.leaves).0

pub park-requires-clause-turned : goal.park-requires-clause-turned
park-requires-clause-turned c = (subst (λ (t : Turn). Leaves t c.args.board.now.book.state c.args.conn) c.in-Parks.is c.requires.leaves).1

pub park-requires-clause-backed : goal.park-requires-clause-backed
park-requires-clause-backed c = (subst (λ (t : Turn). Leaves t c.args.board.now.book.state c.args.conn) c.in-Parks.is c.requires.leaves).2

pub let_linger-requires-clause-shows : goal.let_linger-requires-clause-shows
let_linger-requires-clause-shows c = subst (λ (t : Turn). Leaves t c.args.board.now.book.state c.args.conn) c.in-Lingers.is c.requires.leaves
