use Rattle.std.proofs.Common.{◌≡◌, ◌++◌}
use Rattle.std.specs.List.{flat_map, range_with_len}
use Rattle.mpm_script.specs.Load.{load_connection}
use Rattle.mpm_script.proofs.load.add_connections.Given as goal

abbrev pub invariant-loop-number : goal.invariant-loop-number
invariant-loop-number l = l.script ≡ l.initial.script ++ flat_map load_connection (range_with_len 0 l.number)
