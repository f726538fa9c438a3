use Rattle.std.proofs.Common.{◌≡◌, ◌+◌, ◌-◌, ◌*◌, ◌≤◌, length}
use Rattle.script_front.specs.DuePlacesInside.{AreMarked, AreUnmarked}
use Rattle.script_front.proofs.due_places.DuePlaces.take.Given as goal

-- no place before the block is marked
abbrev pub invariant-steps : goal.invariant-steps
invariant-steps l = record {
  marks : l.self.marks.items ≡ l.fn.self.marks.items;
  low : l.self.low ≡ l.fn.self.low;
  high : l.self.high ≡ l.fn.self.high;
  marked : AreMarked l.self;
  few : 64 * l.block ≤ length l.self.marks.items + 64;
  none : AreUnmarked l.self.marks.items l.self.low (64 * l.block);
}

abbrev pub decreases-steps : goal.decreases-steps
decreases-steps l = l.self.high - l.block
