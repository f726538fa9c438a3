use Rattle.std.proofs.Common.{◌≡◌, [], take}
use Rattle.script_front.specs.Editions.{conf_of, filed_by}
use Rattle.script_front.proofs.editions.take_opening.Given as goal

abbrev pub invariant-loop-line : goal.invariant-loop-line
invariant-loop-line l = l.draft ≡ record { past = []; conf = conf_of (take l.line-index l.lines); filed = filed_by (take l.line-index l.lines) }
