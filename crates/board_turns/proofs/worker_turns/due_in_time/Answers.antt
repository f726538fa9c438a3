use Rattle.std.proofs.Common.{inr}
use Rattle.board_turns.proofs.FoundLemmas.{due_none, due_some, due_times}
use Rattle.board_turns.proofs.worker_turns.due_in_time.Goals as goal

pub returns-in-Some-clause-none : goal.returns-in-Some-clause-none
returns-in-Some-clause-none g c = inr (_, c.in-Some.ensures.late)

pub returns-in-None-clause-due : goal.returns-in-None-clause-due
returns-in-None-clause-due g c = due_some c.args.board.now.book.state c.args.child c.signalled_of.result c.signalled_of.ensures

pub returns-in-None-clause-in_time : goal.returns-in-None-clause-in_time
returns-in-None-clause-in_time g c =
    due_times c.args.board.now.book.state c.args.child c.signalled_of.result c.in-None.ensures.late c.signalled_of.ensures

pub returns-in-None-clause-none : goal.returns-in-None-clause-none
returns-in-None-clause-none g c = due_none c.args.board.now.book.state c.args.child c.signalled_of.result c.signalled_of.ensures
