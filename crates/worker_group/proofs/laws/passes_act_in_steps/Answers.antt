use Rattle.worker_group.proofs.ActsLemmas.{acts_more, acts_none, acts_one, acts-entries_other}
use Rattle.worker_group.proofs.ExitLemmas.{rest_more}
use Rattle.worker_group.proofs.laws.passes_act_in_steps.Goals as goal

pub returns-clause-acts : goal.returns-clause-acts
returns-clause-acts c = record { none = acts_none; one = acts_one; more = acts_more; others = acts-entries_other }

pub returns-clause-rest : goal.returns-clause-rest
returns-clause-rest c = rest_more
