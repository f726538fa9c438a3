use Rattle.table_rule.proofs.TrailLemmas.{goes_on_more, numbered_more, of_makers_more, of_more_makers}
use Rattle.table_rule.proofs.laws_of_trails.trails_go_on_by_one_step.Goals as goal

pub returns-clause-goes_on : goal.returns-clause-goes_on
returns-clause-goes_on c = goes_on_more

pub returns-clause-numbered : goal.returns-clause-numbered
returns-clause-numbered c = numbered_more

pub returns-clause-of_makers : goal.returns-clause-of_makers
returns-clause-of_makers c = λ before after steps step makers le below. of_makers_more after steps step (of_more_makers before after steps le makers) below
