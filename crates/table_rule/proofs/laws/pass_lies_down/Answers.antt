use Rattle.table_rule.proofs.TurnLaws.{rests_law}
use Rattle.table_rule.proofs.laws.pass_lies_down.Goals as goal

pub returns : goal.returns
returns g c = λ o. rests_law g.K.Kept.ledger o
