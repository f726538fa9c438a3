use Rattle.std.proofs.Common.{length}
use Rattle.mpm_script.proofs.EscapeLemmas.{Reads}
use Rattle.mpm_script.proofs.escapes.spelled.Given as goal

abbrev pub invariant-bytes : goal.invariant-bytes
invariant-bytes l = Reads l.fn.text l.bytes l.rest

abbrev pub decreases-bytes : goal.decreases-bytes
decreases-bytes l = length l.rest
