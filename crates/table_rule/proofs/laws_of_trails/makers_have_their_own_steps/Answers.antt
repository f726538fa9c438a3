use Rattle.table_rule.proofs.TrailLemmas.{by_it, by_none, by_other}
use Rattle.table_rule.proofs.laws_of_trails.makers_have_their_own_steps.Goals as goal

pub returns-clause-own : goal.returns-clause-own
returns-clause-own c = by_it

pub returns-clause-other : goal.returns-clause-other
returns-clause-other c = by_other

pub returns-clause-none : goal.returns-clause-none
returns-clause-none c = by_none
