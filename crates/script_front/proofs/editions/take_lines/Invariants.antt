use Rattle.std.proofs.Common.{◌≡◌, ◌++◌, take, drop}
use Rattle.script_front.specs.Editions.{conf_of, editions_behind, filed_by}
use Rattle.script_front.proofs.editions.take_lines.Given as goal

abbrev pub invariant-loop-line : goal.invariant-loop-line
invariant-loop-line l = record {
  conf : l.draft.conf ≡ conf_of (l.opening ++ take l.line-index l.lines);
  filed : l.draft.filed ≡ filed_by (l.opening ++ take l.line-index l.lines);
  past : l.draft.past ++ editions_behind (l.opening ++ take l.line-index l.lines) (drop l.line-index l.lines) ≡ l.fn.draft.past ++ editions_behind l.opening l.lines;
}
