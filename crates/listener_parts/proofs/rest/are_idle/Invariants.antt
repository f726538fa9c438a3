use Rattle.std.proofs.Common.{◌≡◌, ◌≢◌, ◌<◌, ℕ, [], None, slice_index}
use Rattle.board_turns.specs.Turns.{IsListener}
use Rattle.listener_parts.specs.Did.{Did}
use Rattle.listener_parts.specs.Rounds.{AreCredits, WasFoundIdle}
use Rattle.listener_parts.proofs.rest.are_idle.Given as goal

-- nothing was done meanwhile
abbrev pub invariant-loop-child : goal.invariant-loop-child
invariant-loop-child g l =
    record {
      own : l.pass.seat.table_id ≡ l.initial.pass.seat.table_id;
      listener : IsListener l.pass.seat.me;
      did : Did [] None l.initial.pass.seat.me.0 l.pass.seat.me.0;
      credits : AreCredits l.credits l.pass.seat.me.0;
      still : l.pass.seat.me.0.seen ≡ l.initial.pass.seat.me.0.seen;
      idle : (child : ℕ) → child < l.child → slice_index l.credits child ≢ 0
          → WasFoundIdle child (slice_index l.credits child) l.initial.pass.seat.me.0 l.pass.seat.me.0;
    }
