use Rattle.std.proofs.Common.{◌≡◌, length, take}
use Rattle.listener_turns.specs.PartsInside.{MadeEvents}
use Rattle.listener_turns.specs.Signals.{ready_events}
use Rattle.listener_turns.proofs.parts.signal_each.Given as goal

-- the slots so far were signalled
abbrev pub invariant-loop-slot : goal.invariant-loop-slot
invariant-loop-slot g l =
    record {
      made : MadeEvents 0 (ready_events (length l.fn.board.book.state.rows) (take l.slot-index l.slots)) l.fn.board l.board;
      rows : l.board.book.state.rows ≡ l.fn.board.book.state.rows;
    }
