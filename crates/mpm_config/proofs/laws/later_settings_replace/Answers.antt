use Rattle.mpm_config.proofs.LawLemmas.{replaced, replaced_in_host}
use Rattle.mpm_config.proofs.laws.later_settings_replace.Goals as goal

pub returns-clause-outer : goal.returns-clause-outer
returns-clause-outer c = replaced

pub returns-clause-host : goal.returns-clause-host
returns-clause-host c = replaced_in_host
