-- The tags so far are those of the files so far.
use Rattle.std.proofs.Common.{◌≡◌, take}
use Rattle.file_table.specs.SiteInside.{tags_of}
use Rattle.file_table.proofs.found_once.tags_of.Given as goal

abbrev pub invariant-loop-file : goal.invariant-loop-file
invariant-loop-file l = l.tags ≡ tags_of (take l.file-index l.files)
