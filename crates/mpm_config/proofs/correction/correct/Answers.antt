-- What the corrections need holds where the written numbers are in their ranges.
use Rattle.mpm_config.proofs.CorrectionLemmas.{ready}
use Rattle.mpm_config.proofs.correction.correct.Goals as goal

pub correct_by-requires : goal.correct_by-requires
correct_by-requires c = ready c.args.written.now c.requires
