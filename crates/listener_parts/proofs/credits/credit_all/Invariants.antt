use Rattle.std.proofs.Common.{◌≡◌, [], None}
use Rattle.board_turns.specs.Books.{state_of}
use Rattle.board_turns.specs.Turns.{IsListener}
use Rattle.listener_parts.specs.Did.{Did, LeavesAlone}
use Rattle.listener_parts.specs.Rounds.{AreCredits}
use Rattle.listener_parts.proofs.credits.credit_all.Given as goal

-- the children so far have their credits, and nothing else was done
abbrev pub invariant-loop-child : goal.invariant-loop-child
invariant-loop-child g l =
    record {
      own : l.pass.seat.table_id ≡ l.initial.pass.seat.table_id;
      listener : IsListener l.pass.seat.me;
      did : Did [] None l.initial.pass.seat.me.0 l.pass.seat.me.0;
      rest : LeavesAlone (state_of l.initial.pass.seat.me.0) (state_of l.pass.seat.me.0);
      credits : AreCredits l.credits l.pass.seat.me.0;
    }
