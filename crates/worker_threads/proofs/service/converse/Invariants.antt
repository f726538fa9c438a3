use Rattle.std.proofs.Common.{◌≡◌, []}
use Rattle.board_turns.specs.Carries.{Serves}
use Rattle.worker_threads.proofs.ServingLemmas.{ConversedSoFar}
use Rattle.worker_threads.proofs.service.converse.Given as goal

-- the worker serves the connection, and what it did so far
abbrev pub invariant-loop : goal.invariant-loop
invariant-loop g l =
    record {
      own : l.carrier.seat.table_id ≡ l.initial.carrier.seat.table_id;
      hand : l.carrier.seat.me.1 ≡ [];
      so_far : ConversedSoFar l.initial.carrier.seat.me.0 l.carrier.seat.me.0 l.initial.conn l.conn;
      serves : Serves g.N.Known.known l.carrier.seat.me.0 l.conn;
    }
