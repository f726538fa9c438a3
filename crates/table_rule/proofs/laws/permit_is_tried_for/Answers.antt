use Rattle.table_rule.proofs.IdleLaws.{tries_law}
use Rattle.table_rule.proofs.laws.permit_is_tried_for.Goals as goal

pub returns : goal.returns
returns g c = λ o slots id k me. tries_law g.K.Kept.ledger o slots id me k
