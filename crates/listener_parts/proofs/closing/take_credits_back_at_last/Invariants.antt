use Rattle.std.proofs.Common.{◌≡◌, [], None}
use Rattle.board_turns.specs.Turns.{IsListener}
use Rattle.listener_parts.specs.Did.{Did}
use Rattle.listener_parts.specs.Rounds.{AreCredits}
use Rattle.listener_parts.proofs.closing.take_credits_back_at_last.Given as goal

-- nothing but steps on idle words was done
abbrev pub invariant-loop : goal.invariant-loop
invariant-loop g l =
    record {
      own : l.pass.seat.table_id ≡ l.initial.pass.seat.table_id;
      listener : IsListener l.pass.seat.me;
      did : Did [] None l.initial.pass.seat.me.0 l.pass.seat.me.0;
      seen : l.pass.seat.me.0.seen ≡ l.initial.pass.seat.me.0.seen;
      credits : AreCredits l.credits l.pass.seat.me.0;
    }
