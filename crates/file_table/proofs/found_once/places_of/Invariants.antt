-- The places so far are those of the files so far.
use Rattle.std.proofs.Common.{◌≡◌, take}
use Rattle.file_table.specs.SiteInside.{places_of}
use Rattle.file_table.proofs.found_once.places_of.Given as goal

abbrev pub invariant-loop-file : goal.invariant-loop-file
invariant-loop-file l = l.places.items ≡ places_of l.types (take l.file-index l.files)
