use Rattle.std.proofs.Common.{◌+◌, ◌-◌, ◌≤◌, length}
use Rattle.http_read.specs.BodyPlaces.{begun_len}
use Rattle.http_tests.proofs.bodies.read_cut.Given as goal

abbrev pub invariant-loop-more : goal.invariant-loop-more
invariant-loop-more l = (l.taken + begun_len l.reader ≤ l.end) × (l.end ≤ length l.text)

abbrev pub decreases-loop-more : goal.decreases-loop-more
decreases-loop-more l = length l.text - l.end
