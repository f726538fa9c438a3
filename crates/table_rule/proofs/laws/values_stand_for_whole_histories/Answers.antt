use Rattle.table_rule.proofs.KeptLaws.{entries_kept, row_kept}
use Rattle.table_rule.proofs.laws.values_stand_for_whole_histories.Goals as goal

pub returns-clause-row : goal.returns-clause-row
returns-clause-row c = row_kept (record { row = c.records_go_on_by_folds.ensures.row; next = c.records_go_on_by_folds.ensures.next })

pub returns-clause-entries : goal.returns-clause-entries
returns-clause-entries c = entries_kept (record { row = c.records_go_on_by_folds.ensures.row; next = c.records_go_on_by_folds.ensures.next })
