use Rattle.std.proofs.Common.{◌≡◌, ◌-◌, true, take}
use Rattle.script_front.specs.DuePlacesInside.{AllLook}
use Rattle.script_front.specs.Signals.{all_closed}
use Rattle.script_front.proofs.script_client.closed_up_to.Given as goal

abbrev pub invariant-links : goal.invariant-links
invariant-links l = record {
  looks : AllLook l.fn.clients l.clients;
  are : all_closed (take l.found l.clients) ≡ true;
}

abbrev pub decreases-links : goal.decreases-links
decreases-links l = l.count - l.found
