-- What the corrections need holds where the written numbers are in their ranges.
use Rattle.mpm_config.proofs.CorrectionLemmas.{ready}
use Rattle.mpm_config.proofs.correction.warnings_of.Goals as goal

pub tell_by-requires : goal.tell_by-requires
tell_by-requires c = ready c.args.written.now c.requires
