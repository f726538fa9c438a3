use Rattle.std.proofs.Common.{◌≡◌, List, Option, length, map, drop}
use Rattle.mpm_base.specs.declared.conn.ConnName.{ConnName}
use Rattle.script_front.specs.DuePlacesInside.{AreMarked, Covers}
use Rattle.script_front.specs.Signals.{client_after_lines}
use Rattle.script_front.proofs.SignalLemmas.{names}
use Rattle.script_front.proofs.script_client.happen.Given as goal

abbrev pub invariant-loop-line : goal.invariant-loop-line
invariant-loop-line l = record {
  named : names l.clients ≡ l.chains;
  happened : map (client_after_lines (drop l.line-index l.lines)) l.clients ≡ map (client_after_lines l.lines) l.fn.clients;
  each : length l.due.marks.items ≡ length l.fn.due.marks.items;
  marked : AreMarked l.due;
  covers : (watched : List (Option ConnName)) → Covers l.fn.due.marks.items l.fn.clients watched → Covers l.due.marks.items l.clients watched;
}
