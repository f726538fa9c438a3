use Rattle.conn_machine.proofs.HistoryLemmas.{history_made, row_none, run_made}
use Rattle.conn_machine.proofs.laws_of_runs.made_histories_are_runs.Goals as goal

pub returns : goal.returns
returns c =
    record {
      run = run_made;
      history = history_made;
      none = row_none;
    }
