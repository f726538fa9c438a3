use Rattle.std.proofs.Common.{◌≡◌, take, None}
use Rattle.worker_group.specs.Acts.{Acts}
use Rattle.worker_group.specs.Service.{LeavesRest}
use Rattle.rounds.specs.PartsInside.{StaysTimely, signal_events}
use Rattle.rounds.proofs.round.signal_all.Given as goal

-- the slots so far were signalled
abbrev pub invariant-loop-slot : goal.invariant-loop-slot
invariant-loop-slot g l =
    record {
      acts : Acts 0 (signal_events l.fn.board.book (take l.slot-index l.slots)) None l.fn.board.book l.board.book;
      rest : LeavesRest l.fn.board.book l.board.book;
      timely : StaysTimely l.fn.board.book l.board.book;
      rows : l.board.book.state.rows ≡ l.fn.board.book.state.rows;
      children : l.board.book.state.children ≡ l.fn.board.book.state.children;
    }
