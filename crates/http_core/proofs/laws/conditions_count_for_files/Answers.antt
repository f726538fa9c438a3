use Rattle.http_core.proofs.ConditionLemmas.{conditions_count}
use Rattle.http_core.proofs.laws.conditions_count_for_files.Goals as goal

pub returns : goal.returns
returns c = conditions_count c.hosts_have_their_files.ensures
