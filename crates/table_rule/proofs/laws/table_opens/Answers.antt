use Rattle.std.proofs.Common.{refl}
use Rattle.table_rule.proofs.DrawLaws.{opens_law}
use Rattle.table_rule.proofs.laws.table_opens.Goals as goal

pub returns : goal.returns
returns g c = λ words kept new first. opens_law g.K.Kept.ledger (g.K.Kept.ledger kept) c.folds_are_one_fold.ensures.nothing words kept refl new first
