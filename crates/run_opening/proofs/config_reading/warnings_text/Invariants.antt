use Rattle.std.proofs.Common.{◌≡◌, take}
use Rattle.std.specs.List.{flat_map}
use Rattle.mpm_config.specs.Correction.{notice_text}
use Rattle.run_opening.proofs.config_reading.warnings_text.Given as goal

-- the warnings so far have their lines
abbrev pub invariant-loop-warning : goal.invariant-loop-warning
invariant-loop-warning l = l.text ≡ flat_map notice_text (take l.warning-index l.warnings)
