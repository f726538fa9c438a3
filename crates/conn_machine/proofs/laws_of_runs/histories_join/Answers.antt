use Rattle.conn_machine.proofs.HistoryLemmas.{entries_of-append}
use Rattle.conn_machine.proofs.RunLemmas.{after-append}
use Rattle.conn_machine.proofs.laws_of_runs.histories_join.Goals as goal

pub returns : goal.returns
returns c =
    record {
      state = after-append;
      entries = entries_of-append;
    }
