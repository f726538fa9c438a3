-- The list has no slot twice, and each that it had.
use Rattle.std.proofs.Common.{◌≡◌, ◌==◌, ◌≤◌, length, true}
use Rattle.std.specs.List.{IsDistinct}
use Rattle.socket_links.specs.EventsInside.{has_slot}
use Rattle.socket_links.proofs.giving_way.GivenWay.give_group.Given as goal

abbrev pub invariant-loop-slot : goal.invariant-loop-slot
invariant-loop-slot l = record {
  distinct : IsDistinct (λ a b. a == b) l.ready;
  few : length l.ready ≤ 256;
  kept : (slot : _) → has_slot l.fn.ready slot ≡ true → has_slot l.ready slot ≡ true;
}
