use Rattle.worker_group.specs.Service.{LeavesRest}
use Rattle.rounds.specs.ClosingInside.{LetsGoLate, late_weight}
use Rattle.rounds.specs.TableInside.{NoneOverdue}
use Rattle.rounds.proofs.closing.let_go_late.Given as goal

-- late connections were let go of, none where none was late, and then none is
abbrev pub invariant-loop-name : goal.invariant-loop-name
invariant-loop-name g l =
    record {
      gone : LetsGoLate l.fn.board.book l.board.book;
      still : NoneOverdue l.fn.board.book.state → NoneOverdue l.board.book.state;
      rest : LeavesRest l.fn.board.book l.board.book;
    }

-- how many connections are late, and may be once more
abbrev pub decreases-loop-name : goal.decreases-loop-name
decreases-loop-name g l = late_weight l.board.book.state
