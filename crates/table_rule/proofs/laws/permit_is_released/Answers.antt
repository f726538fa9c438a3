use Rattle.table_rule.proofs.IdleLaws.{releases_law}
use Rattle.table_rule.proofs.laws.permit_is_released.Goals as goal

pub returns : goal.returns
returns g c = λ o slots id k me. releases_law g.K.Kept.ledger o slots id me k
