use Rattle.std.proofs.Common.{suc, length, map}
use Rattle.timeout_queues.specs.Entries.{parked_in}
use Rattle.timeout_queues.specs.RingsInside.{IsBack}
use Rattle.timeout_queues.proofs.WalkLemmas.{steps_back}
use Rattle.timeout_queues.proofs.last_before.Given as goal

abbrev pub invariant-loop-place : goal.invariant-loop-place
invariant-loop-place l = IsBack (map parked_in l.slots) l.rings.behind.items l.head l.deadline l.place

abbrev pub decreases-loop-place : goal.decreases-loop-place
decreases-loop-place l =
    steps_back (length (map parked_in l.slots)) l.rings.before.items (suc (suc (length (map parked_in l.slots)))) l.place
