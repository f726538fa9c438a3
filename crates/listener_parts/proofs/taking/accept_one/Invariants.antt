use Rattle.std.proofs.Common.{◌≡◌, [], None}
use Rattle.board_turns.specs.Books.{state_of}
use Rattle.board_turns.specs.Turns.{HadTurns, IsListener}
use Rattle.listener_parts.specs.Did.{LeavesAlone}
use Rattle.listener_parts.proofs.taking.accept_one.Given as goal

-- none was taken so far, and nothing else was done
abbrev pub invariant-loop : goal.invariant-loop
invariant-loop g l =
    record {
      own : l.pass.seat.table_id ≡ l.initial.pass.seat.table_id;
      listener : IsListener l.pass.seat.me;
      none : l.pass.seat.me.0.row ≡ None;
      turns : HadTurns [] l.initial.pass.seat.me.0 l.pass.seat.me.0;
      rest : LeavesAlone (state_of l.initial.pass.seat.me.0) (state_of l.pass.seat.me.0);
    }
