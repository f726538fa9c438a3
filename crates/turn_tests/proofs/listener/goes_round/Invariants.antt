use Rattle.std.proofs.Common.{◌≡◌, None}
use Rattle.turn_tests.proofs.listener.goes_round.Given as goal

abbrev pub invariant-loop : goal.invariant-loop
invariant-loop g l = l.front.pass.seat.me.0.row ≡ None
