-- No point stands from the place on.
use Rattle.std.proofs.Common.{◌≡◌, drop, None}
use Rattle.media_types.specs.MediaType.{extension_of}
use Rattle.media_types.proofs.type_table.extension_of.Given as goal

abbrev pub invariant-loop-place : goal.invariant-loop-place
invariant-loop-place l = extension_of (drop l.place l.name) ≡ None
