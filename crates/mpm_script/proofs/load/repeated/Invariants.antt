use Rattle.std.proofs.Common.{◌≡◌}
use Rattle.std.specs.List.{repeat}
use Rattle.mpm_script.proofs.load.repeated.Given as goal

abbrev pub invariant-loop-made : goal.invariant-loop-made
invariant-loop-made l = l.bytes ≡ repeat l._made l.text
