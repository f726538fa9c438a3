use Rattle.std.proofs.Common.{◌≡◌, List, Option, length, map}
use Rattle.mpm_base.specs.declared.conn.ConnName.{ConnName}
use Rattle.mpm_base.specs.declared.script_line.ScriptLine.TheVariants as line
use Rattle.script_front.specs.DuePlacesInside.{AreMarked, Covers}
use Rattle.script_front.specs.Signals.{client_after_line}
use Rattle.script_front.proofs.WalkLemmas.{Walked, reach}
use Rattle.script_front.proofs.script_client.act_on.Given as goal

abbrev pub invariant-places : goal.invariant-places
invariant-places l = record {
  walked : Walked l.name l.chains l.fn.clients (map (client_after_line (line.Client l.name l.act)) l.fn.clients) l.clients l.next;
  each : length l.due.marks.items ≡ length l.fn.due.marks.items;
  marked : AreMarked l.due;
  covers : (watched : List (Option ConnName)) → Covers l.fn.due.marks.items l.fn.clients watched → Covers l.due.marks.items l.clients watched;
}

abbrev pub decreases-places : goal.decreases-places
decreases-places l = reach l.next
