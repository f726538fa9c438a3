use Rattle.std.proofs.Common.{◌≡◌}
use Rattle.board_turns.specs.Books.{state_of}
use Rattle.board_turns.specs.Turns.{IsListener}
use Rattle.listener_parts.specs.Did.{StandsAs}
use Rattle.listener_parts.specs.Rounds.{AreCredits, RetiresSome}
use Rattle.listener_parts.proofs.starting.retire_all.Given as goal

-- children were let go of
abbrev pub invariant-loop : goal.invariant-loop
invariant-loop g l =
    record {
      own : l.pass.seat.table_id ≡ l.initial.pass.seat.table_id;
      listener : IsListener l.pass.seat.me;
      retires : RetiresSome l.initial.pass.seat.me.0 l.pass.seat.me.0;
      rest : StandsAs (state_of l.initial.pass.seat.me.0) (state_of l.pass.seat.me.0);
      credits : AreCredits l.credits l.pass.seat.me.0;
    }
