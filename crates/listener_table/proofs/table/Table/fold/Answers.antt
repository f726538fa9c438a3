use Rattle.std.proofs.Common.{◌∙◌}
use Rattle.listener_table.proofs.TableLemmas.{table_folds}
use Rattle.listener_table.proofs.table.Table.fold.Goals as goal

pub invariant_of-self : goal.invariant_of-self
invariant_of-self g c =
    let laws = c.table_rests_on_these.ensures in
    let done = c.fold_history.ensures in
    (done.own ∙ c.self.invariant.0, table_folds laws c.self.invariant.1 done.listener done.sees done.credits done.dropped done.rest)
