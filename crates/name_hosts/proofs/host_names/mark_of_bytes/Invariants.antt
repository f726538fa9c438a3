-- The mark so far is that of the bytes so far, and fits.
use Rattle.std.proofs.Common.{◌≡◌, ◌<◌, take}
use Rattle.name_hosts.specs.MarkInside.{mark_of_bytes, marks_below}
use Rattle.name_hosts.proofs.host_names.mark_of_bytes.Given as goal

abbrev pub invariant-loop-byte : goal.invariant-loop-byte
invariant-loop-byte l = (l.marked < marks_below) × (l.marked ≡ mark_of_bytes (take l.byte-index l.bytes))
