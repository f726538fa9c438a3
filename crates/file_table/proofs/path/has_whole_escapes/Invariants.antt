use Rattle.std.proofs.Common.{◌≡◌, drop}
use Rattle.file_table.specs.Path.{has_whole_escapes}
use Rattle.file_table.proofs.path.has_whole_escapes.Given as goal

abbrev pub invariant-loop-place : goal.invariant-loop-place
invariant-loop-place l = has_whole_escapes (drop l.place l.path) ≡ has_whole_escapes l.path
