use Rattle.std.proofs.Common.{◌≡◌, ◌+◌, drop}
use Rattle.script_front.specs.ScriptFront.{lines_now}
use Rattle.script_front.proofs.coming_lines.lines_now.Given as goal

abbrev pub invariant-loop-place : goal.invariant-loop-place
invariant-loop-place l = l.place + lines_now (drop l.place l.lines) ≡ lines_now l.lines
