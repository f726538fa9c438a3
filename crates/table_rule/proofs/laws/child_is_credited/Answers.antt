use Rattle.table_rule.proofs.IdleLaws.{credits_law}
use Rattle.table_rule.proofs.laws.child_is_credited.Goals as goal

pub returns : goal.returns
returns g c = λ o found slots id k n me. credits_law g.K.Kept.ledger o slots id me found k n
