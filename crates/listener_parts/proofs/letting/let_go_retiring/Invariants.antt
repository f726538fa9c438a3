use Rattle.std.proofs.Common.{◌≡◌}
use Rattle.board_turns.specs.Books.{state_of}
use Rattle.board_turns.specs.Turns.{IsListener}
use Rattle.listener_parts.specs.Did.{LeavesAlone}
use Rattle.listener_parts.specs.Letting.{IsRetiringWay, LetsGo}
use Rattle.listener_parts.proofs.letting.let_go_retiring.Given as goal

-- connections that are kept alive by a child that stops were let go of
abbrev pub invariant-loop : goal.invariant-loop
invariant-loop g l =
    record {
      own : l.pass.seat.table_id ≡ l.initial.pass.seat.table_id;
      listener : IsListener l.pass.seat.me;
      gone : LetsGo IsRetiringWay l.initial.pass.seat.me.0 l.pass.seat.me.0;
      credits : l.pass.seat.me.0.credits ≡ l.initial.pass.seat.me.0.credits;
      rest : LeavesAlone (state_of l.initial.pass.seat.me.0) (state_of l.pass.seat.me.0);
    }
