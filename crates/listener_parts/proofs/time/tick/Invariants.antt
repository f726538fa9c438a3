use Rattle.std.proofs.Common.{◌≡◌}
use Rattle.board_turns.specs.Books.{state_of}
use Rattle.board_turns.specs.Turns.{IsListener}
use Rattle.listener_parts.specs.Did.{LeavesAlone}
use Rattle.listener_parts.specs.Letting.{IsLateWay, LetsGo}
use Rattle.listener_parts.specs.Rounds.{IsRestedFor}
use Rattle.listener_parts.proofs.time.tick.Given as goal

-- late connections were let go of, and no time passed; behind a rest that comes to an end with the first turn
abbrev pub invariant-loop : goal.invariant-loop
invariant-loop g l =
    record {
      own : l.pass.seat.table_id ≡ l.initial.pass.seat.table_id;
      listener : IsListener l.pass.seat.me;
      gone : LetsGo IsLateWay l.initial.pass.seat.me.0 l.pass.seat.me.0;
      credits : l.pass.seat.me.0.credits ≡ l.initial.pass.seat.me.0.credits;
      rest : LeavesAlone (state_of l.initial.pass.seat.me.0) (state_of l.pass.seat.me.0);
      first : IsRestedFor l.moment l.initial.pass.seat.me.0 → l.pass.seat.me.0 ≡ l.initial.pass.seat.me.0;
    }
