-- What was told so far, and what the corrections that are left tell, is what all of them tell.
use Rattle.std.proofs.Common.{◌≡◌, ◌++◌, drop}
use Rattle.mpm_config.specs.Correction.{notices_by}
use Rattle.mpm_config.specs.CorrectionInside.{AllReady}
use Rattle.mpm_config.proofs.correction.tell_by.Given as goal

abbrev pub invariant-loop-correction : goal.invariant-loop-correction
invariant-loop-correction l =
    (l.warnings ++ notices_by (drop l.correction-index l.corrections) l.numbers ≡ l.fn.warnings ++ notices_by l.corrections l.fn.numbers)
    × AllReady (drop l.correction-index l.corrections) l.numbers
