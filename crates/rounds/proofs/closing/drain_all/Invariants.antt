use Rattle.worker_group.specs.Service.{LeavesRest}
use Rattle.rounds.specs.ClosingInside.{IsDrainedWay, LetsGo, signal_count}
use Rattle.rounds.specs.TableInside.{NoneOverdue}
use Rattle.rounds.proofs.closing.drain_all.Given as goal

-- connections that linger were drained, and none is late
abbrev pub invariant-loop-name : goal.invariant-loop-name
invariant-loop-name g l =
    record {
      gone : LetsGo IsDrainedWay l.fn.board.book l.board.book;
      none_late : NoneOverdue l.board.book.state;
      rest : LeavesRest l.fn.board.book l.board.book;
    }

-- how many slots are signalled
abbrev pub decreases-loop-name : goal.decreases-loop-name
decreases-loop-name g l = signal_count l.board.book.state
