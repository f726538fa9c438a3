use Rattle.std.proofs.Common.{◌≡◌}
use Rattle.board_lock.specs.Passes.{HasNoTurn}
use Rattle.turn_tests.proofs.crew.permits_of.Given as goal

-- the pass is of its lock still, and has no turn
abbrev pub invariant-loop-child : goal.invariant-loop-child
invariant-loop-child l =
    record {
      own : l.pass.seat.table_id ≡ l.shared.table.shared.table_id;
      free : HasNoTurn l.pass.seat.me;
    }
