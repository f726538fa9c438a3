-- The corrections that are left make of the numbers so far what all of them make of the first ones.
use Rattle.std.proofs.Common.{◌≡◌, drop}
use Rattle.mpm_config.specs.Correction.{corrected_by}
use Rattle.mpm_config.specs.CorrectionInside.{AllReady}
use Rattle.mpm_config.proofs.correction.correct_by.Given as goal

abbrev pub invariant-loop-correction : goal.invariant-loop-correction
invariant-loop-correction l =
    (corrected_by (drop l.correction-index l.corrections) l.numbers ≡ corrected_by l.corrections l.fn.numbers)
    × AllReady (drop l.correction-index l.corrections) l.numbers
