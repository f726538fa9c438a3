use Rattle.std.proofs.Common.{◌≡◌, ◌++◌, map}
use Rattle.std.specs.List.{range_with_len}
use Rattle.mpm_script.specs.Load.{load_file}
use Rattle.mpm_script.proofs.load.add_files.Given as goal

abbrev pub invariant-loop-number : goal.invariant-loop-number
invariant-loop-number l = l.script ≡ l.initial.script ++ map load_file (range_with_len 0 l.number)
