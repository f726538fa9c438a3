-- What is found from the place on is what is found in the whole.
use Rattle.std.proofs.Common.{◌≡◌}
use Rattle.mpm_config.specs.Form.{before_end}
use Rattle.mpm_config.proofs.FormLemmas.{found_from}
use Rattle.mpm_config.proofs.form.before_end.Given as goal

abbrev pub invariant-loop-place : goal.invariant-loop-place
invariant-loop-place l = before_end l.text ≡ found_from l.text l.place
