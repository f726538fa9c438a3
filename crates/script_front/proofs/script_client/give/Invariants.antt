use Rattle.std.proofs.Common.{◌-◌, length}
use Rattle.script_front.proofs.DueLemmas.{GivesDue}
use Rattle.script_front.proofs.script_client.give.Given as goal

abbrev pub invariant-places : goal.invariant-places
invariant-places l = GivesDue l.fn.clients l.clients l.watched l.due l.ready

abbrev pub decreases-places : goal.decreases-places
decreases-places l = length l.watched - l.due.low
