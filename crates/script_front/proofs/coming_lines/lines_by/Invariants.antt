use Rattle.std.proofs.Common.{◌≡◌, ◌+◌, drop}
use Rattle.script_front.specs.ScriptFront.{lines_by}
use Rattle.script_front.proofs.coming_lines.lines_by.Given as goal

abbrev pub invariant-loop-place : goal.invariant-loop-place
invariant-loop-place l = l.place + lines_by l.moment (drop l.place l.lines) ≡ lines_by l.moment l.lines
