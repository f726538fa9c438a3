use Rattle.std.proofs.Common.{◌≡◌, count_by}
use Rattle.conn_machine.specs.Children.{is_stopping}
use Rattle.worker_group.specs.Service.{LeavesRest}
use Rattle.rounds.specs.PartsInside.{RetiresSome}
use Rattle.rounds.proofs.round.retire_all.Given as goal

-- the server stays stopped, with the rows that it had
abbrev pub invariant-loop-child : goal.invariant-loop-child
invariant-loop-child g l =
    record {
      retires : RetiresSome l.fn.board.book l.board.book;
      rest : LeavesRest l.fn.board.book l.board.book;
      going : l.board.book.state.going ≡ l.fn.board.book.state.going;
      rows : l.board.book.state.rows ≡ l.fn.board.book.state.rows;
    }

-- how many children stop
abbrev pub decreases-loop-child : goal.decreases-loop-child
decreases-loop-child g l = count_by (λ c. is_stopping c.phase) l.board.book.state.children
