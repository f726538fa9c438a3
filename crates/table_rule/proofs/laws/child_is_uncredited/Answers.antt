use Rattle.table_rule.proofs.IdleLaws.{uncredits_law}
use Rattle.table_rule.proofs.laws.child_is_uncredited.Goals as goal

pub returns : goal.returns
returns g c = λ o slots id k n me. uncredits_law g.K.Kept.ledger o slots id me k n
