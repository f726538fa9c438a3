use Rattle.conn_machine.proofs.EditionLemmas.{begun_after, begun_first}
use Rattle.conn_machine.proofs.OneFoldLemmas.{fold_nothing, fold_twice, made_twice, within_after, within_first}
use Rattle.conn_machine.proofs.laws_of_runs.folds_are_one_fold.Goals as goal

pub returns : goal.returns
returns c =
    record {
      twice = fold_twice;
      made = made_twice;
      within = within_after;
      opened = within_first;
      begun = begun_after;
      opening = begun_first;
      nothing = fold_nothing;
    }
