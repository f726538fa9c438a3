-- The slots that were given are those of the events so far, and what else was noticed is what these say.
use Rattle.std.proofs.Common.{◌≡◌, ◌≤◌, take, length}
use Rattle.std.specs.List.{list_any}
use Rattle.socket_links.specs.EventsInside.{GivesSlots, is_of_control, is_of_listener, source_of_event}
use Rattle.socket_links.proofs.events.give_slots.Given as goal

abbrev pub invariant-loop-event : goal.invariant-loop-event
invariant-loop-event l = record {
  slots : GivesSlots (take l.event-index l.found) l.ready;
  few : length l.ready ≤ l.event-index;
  arrivals : l.noticed.arrivals ≡ list_any (λ e. is_of_listener (source_of_event e)) (take l.event-index l.found);
  control : l.noticed.control ≡ list_any (λ e. is_of_control (source_of_event e)) (take l.event-index l.found);
}
