use Rattle.std.proofs.Common.{◌≡◌, take}
use Rattle.stand_ins.specs.FilesInside.{names_in}
use Rattle.stand_ins.proofs.listing.copy_names.Given as goal

abbrev pub invariant-loop-slot : goal.invariant-loop-slot
invariant-loop-slot l = l.names ≡ names_in l.folder (take l.slot-index l.slots)
