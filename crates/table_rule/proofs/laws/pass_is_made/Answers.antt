use Rattle.table_rule.proofs.DrawLaws.{splits_law}
use Rattle.table_rule.proofs.laws.pass_is_made.Goals as goal

pub returns : goal.returns
returns g c = λ o. splits_law g.K.Kept.ledger o
