use Rattle.conn_machine.proofs.HistoryLemmas.{load-snoc, made_snoc, row-own}
use Rattle.conn_machine.proofs.RunLemmas.{after-snoc, entries_of-other, entries_of-own, history-snoc}
use Rattle.conn_machine.proofs.laws_of_runs.histories_go_on_by_one_entry.Goals as goal

pub returns : goal.returns
returns c =
    record {
      state = after-snoc;
      history = history-snoc;
      made = made_snoc;
      own = entries_of-own;
      other = entries_of-other;
      row = row-own;
      load = load-snoc;
    }
