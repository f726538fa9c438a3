use Rattle.mpm_config.proofs.CorrectionLemmas.{in_bounds}
use Rattle.mpm_config.proofs.laws.corrected_numbers_are_in_bounds.Goals as goal

pub returns : goal.returns
returns c = in_bounds
