use Rattle.std.proofs.Common.{◌≡◌, map, take}
use Rattle.name_hosts.specs.MarkInside.{mark}
use Rattle.name_hosts.proofs.host_names.marks_of.Given as goal

abbrev pub invariant-loop-name : goal.invariant-loop-name
invariant-loop-name l = l.marks.items ≡ map mark (take l.name-index l.names)
