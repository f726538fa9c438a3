use Rattle.std.proofs.Common.{◌≤◌, length}
use Rattle.http_read.specs.BodyPlaces.{begun_len}
use Rattle.http_tests.proofs.bodies.read_many.Given as goal

abbrev pub invariant-loop : goal.invariant-loop
invariant-loop l = begun_len l.reader ≤ length l.piece
