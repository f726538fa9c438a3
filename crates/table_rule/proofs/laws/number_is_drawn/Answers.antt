use Rattle.table_rule.proofs.DrawLaws.{draws_law}
use Rattle.table_rule.proofs.laws.number_is_drawn.Goals as goal

pub returns : goal.returns
returns g c = λ o. draws_law g.K.Kept.ledger o
