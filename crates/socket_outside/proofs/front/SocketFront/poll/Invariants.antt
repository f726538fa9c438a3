-- The waits that were interrupted counted nothing.
use Rattle.std.proofs.Common.{◌≡◌}
use Rattle.socket_outside.proofs.front.SocketFront.poll.Given as goal

abbrev pub invariant-loop : goal.invariant-loop
invariant-loop g l = l.self.counters ≡ l.fn.self.counters
