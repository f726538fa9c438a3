use Rattle.std.proofs.Common.{◌≡◌, map, take}
use Rattle.std.specs.List.{filter}
use Rattle.mpm_base.specs.Store.{lies_under}
use Rattle.file_table.proofs.reading.names_within.Given as goal

abbrev pub invariant-loop-place : goal.invariant-loop-place
invariant-loop-place l = map (λ name. name.now) l.within.items ≡ filter (lies_under l.root) (take l.place l.names)
