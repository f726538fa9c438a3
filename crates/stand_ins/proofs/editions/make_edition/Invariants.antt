use Rattle.std.proofs.Common.{◌≡◌, ◌≤◌, length}
use Rattle.stand_ins.specs.HistoryInside.{ended}
use Rattle.stand_ins.proofs.editions.make_edition.Given as goal

abbrev pub invariant-loop-step : goal.invariant-loop-step
invariant-loop-step l = record {
  editions : ended l.shelf.files l.coming.items ≡ ended l.fn.shelf.files l.fn.coming.items;
  room : length l.coming.items ≤ l.shelf.room;
}

abbrev pub decreases-loop-step : goal.decreases-loop-step
decreases-loop-step l = length l.coming.items
