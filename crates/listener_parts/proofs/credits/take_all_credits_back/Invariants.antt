use Rattle.std.proofs.Common.{◌≡◌, ◌<◌, ℕ, [], None, slice_index}
use Rattle.board_turns.specs.Turns.{IsListener}
use Rattle.listener_parts.specs.Did.{Did}
use Rattle.listener_parts.specs.Rounds.{AreCredits}
use Rattle.listener_parts.proofs.credits.take_all_credits_back.Given as goal

-- none of the children so far has a credit, and nothing else was done
abbrev pub invariant-loop-child : goal.invariant-loop-child
invariant-loop-child g l =
    record {
      own : l.pass.seat.table_id ≡ l.initial.pass.seat.table_id;
      listener : IsListener l.pass.seat.me;
      did : Did [] None l.initial.pass.seat.me.0 l.pass.seat.me.0;
      seen : l.pass.seat.me.0.seen ≡ l.initial.pass.seat.me.0.seen;
      credits : AreCredits l.credits l.pass.seat.me.0;
      none : (child : ℕ) → child < l.child → slice_index l.credits child ≡ 0;
    }
