use Rattle.mpm_config.proofs.LawLemmas.{hidden_sets_nothing}
use Rattle.mpm_config.proofs.laws.skipped_lines_set_nothing.Goals as goal

pub returns : goal.returns
returns c = hidden_sets_nothing
