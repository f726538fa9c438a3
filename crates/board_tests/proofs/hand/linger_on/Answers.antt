use Rattle.std.proofs.Common.{subst}
use Rattle.board_tests.specs.declared.hand.Lingered.{Lingered}
use Rattle.board_tests.specs.Hand.{LeavesLingering}
use Rattle.board_tests.proofs.hand.linger_on.Goals as goal

pub park-requires-clause-settled : goal.park-requires-clause-settled
park-requires-clause-settled c =
    (subst (λ (l : Lingered). LeavesLingering c.args.cause l c.args.board.now.book.state c.linger_turn.new.conn) c.in-Waits.is c.linger_turn.ensures.leaves).0

pub park-requires-clause-turned : goal.park-requires-clause-turned
park-requires-clause-turned c =
    (subst (λ (l : Lingered). LeavesLingering c.args.cause l c.args.board.now.book.state c.linger_turn.new.conn) c.in-Waits.is c.linger_turn.ensures.leaves).1

pub park-requires-clause-backed : goal.park-requires-clause-backed
park-requires-clause-backed c =
    (subst (λ (l : Lingered). LeavesLingering c.args.cause l c.args.board.now.book.state c.linger_turn.new.conn) c.in-Waits.is c.linger_turn.ensures.leaves).2

pub end-requires-clause-shown : goal.end-requires-clause-shown
end-requires-clause-shown c =
    subst (λ (l : Lingered). LeavesLingering c.args.cause l c.args.board.now.book.state c.linger_turn.new.conn) c.in-Ends.is c.linger_turn.ensures.leaves
