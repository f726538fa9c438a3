use Rattle.std.proofs.Common.{◌≡◌, map}
use Rattle.std.specs.List.{filter}
use Rattle.file_table.specs.Path.{is_filled, name_of_segments}
use Rattle.file_table.proofs.path.name_of_segments.Given as goal

abbrev pub invariant-loop-part : goal.invariant-loop-part
invariant-loop-part l = l.name ≡ name_of_segments (filter is_filled (map (λ x. x.now) l.yielded))
