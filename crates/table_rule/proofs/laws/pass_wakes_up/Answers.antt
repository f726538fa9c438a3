use Rattle.table_rule.proofs.TurnLaws.{wakes_law}
use Rattle.table_rule.proofs.laws.pass_wakes_up.Goals as goal

pub returns : goal.returns
returns g c = λ o slots id p me. wakes_law g.K.Kept.ledger o slots id me p
