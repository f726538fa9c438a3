use Rattle.std.proofs.Common.{◌≡◌, ◌∷◌, take}
use Rattle.std.specs.List.{flat_map}
use Rattle.file_table.specs.Resource.{escaped_byte}
use Rattle.file_table.proofs.resource.folder_path.Given as goal

abbrev pub invariant-loop-byte : goal.invariant-loop-byte
invariant-loop-byte l = l.path ≡ 47 ∷ flat_map escaped_byte (take l.byte-index l.name)
