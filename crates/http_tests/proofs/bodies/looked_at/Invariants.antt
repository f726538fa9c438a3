use Rattle.std.proofs.Common.{◌+◌, ◌≡◌}
use Rattle.http_read.specs.BodyPlaces.{begun_len}
use Rattle.http_tests.proofs.bodies.looked_at.Given as goal

abbrev pub invariant-loop-end : goal.invariant-loop-end
invariant-loop-end l = record {
  taken : l.taken + begun_len l.reader ≡ l.end;
  looked : l.looked ≡ l.end;
}
