-- What was kept is what was taken, as long as that is not too much.
use Rattle.std.proofs.Common.{◌≡◌, ◌<◌, ◌≤◌, ◌-◌, None, length}
use Rattle.system_outside.specs.WholeFile.{most_counted}
use Rattle.system_outside.specs.WholeFileInside.{HasTakenBytes}
use Rattle.system_outside.proofs.whole_file.read_whole.Given as goal

abbrev pub decreases-loop-count : goal.decreases-loop-count
decreases-loop-count g l = most_counted - l.reading.size

abbrev pub invariant-loop-count : goal.invariant-loop-count
invariant-loop-count g l =
    HasTakenBytes (g.F.Read.remaining l.fn.reading.file) (g.F.Read.remaining l.reading.file) l.bytes l.reading.size l.most
    × (l.reading.size ≤ l.most → length l.bytes ≡ l.reading.size)
    × (l.reading.error ≡ None)
    × (l.reading.size < most_counted)
