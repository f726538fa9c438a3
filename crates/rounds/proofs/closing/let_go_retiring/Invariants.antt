use Rattle.worker_group.specs.Service.{LeavesRest}
use Rattle.rounds.specs.ClosingInside.{IsRetiringWay, LetsGo, serving_count}
use Rattle.rounds.proofs.closing.let_go_retiring.Given as goal

-- connections that retire were let go of
abbrev pub invariant-loop-name : goal.invariant-loop-name
invariant-loop-name g l =
    record {
      gone : LetsGo IsRetiringWay l.fn.board.book l.board.book;
      rest : LeavesRest l.fn.board.book l.board.book;
    }

-- how many connections wait for service
abbrev pub decreases-loop-name : goal.decreases-loop-name
decreases-loop-name g l = serving_count l.board.book.state
