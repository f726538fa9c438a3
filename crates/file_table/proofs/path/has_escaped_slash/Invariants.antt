use Rattle.std.proofs.Common.{◌≡◌, drop}
use Rattle.file_table.specs.Path.{has_escaped_slash}
use Rattle.file_table.proofs.path.has_escaped_slash.Given as goal

abbrev pub invariant-loop-place : goal.invariant-loop-place
invariant-loop-place l = has_escaped_slash (drop l.place l.path) ≡ has_escaped_slash l.path
