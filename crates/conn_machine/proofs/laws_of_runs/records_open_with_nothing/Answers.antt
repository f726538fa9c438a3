use Rattle.conn_machine.proofs.FoldLemmas.{no_row_at_first, none_numbered, opening_places, row_at_first}
use Rattle.conn_machine.proofs.laws_of_runs.records_open_with_nothing.Goals as goal

pub returns : goal.returns
returns c =
    record {
      ordinal = none_numbered;
      first = no_row_at_first;
      row = row_at_first;
      places = opening_places;
    }
