use Rattle.std.proofs.Common.{◌≡◌}
use Rattle.worker_group.specs.Service.{LeavesRest}
use Rattle.rounds.specs.ClosingInside.{IsHaltedWay, LetsGo, parked_count}
use Rattle.rounds.proofs.down.close_all.Given as goal

-- connections were closed, and the server stays stopped
abbrev pub invariant-loop-name : goal.invariant-loop-name
invariant-loop-name g l =
    record {
      gone : LetsGo IsHaltedWay l.fn.board.book l.board.book;
      rest : LeavesRest l.fn.board.book l.board.book;
      going : l.board.book.state.going ≡ l.fn.board.book.state.going;
    }

-- how many connections wait
abbrev pub decreases-loop-name : goal.decreases-loop-name
decreases-loop-name g l = parked_count l.board.book.state
