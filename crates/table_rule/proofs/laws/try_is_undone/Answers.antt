use Rattle.table_rule.proofs.IdleLaws.{undoes_law}
use Rattle.table_rule.proofs.laws.try_is_undone.Goals as goal

pub returns : goal.returns
returns g c = λ o slots id k me. undoes_law g.K.Kept.ledger o slots id me k
