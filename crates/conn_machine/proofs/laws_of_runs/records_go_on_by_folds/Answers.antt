use Rattle.conn_machine.proofs.FoldLemmas.{goes_on, goes_same, goes_twice, next_goes_on, places_stay, row_on}
use Rattle.conn_machine.proofs.laws_of_runs.records_go_on_by_folds.Goals as goal

pub returns : goal.returns
returns c =
    record {
      fold = goes_on;
      places = places_stay;
      none = goes_same;
      more = goes_twice;
      row = row_on;
      next = next_goes_on;
    }
