use Rattle.conn_machine.proofs.HistoryLemmas.{adds_few, adds_made, adds_more, adds_none, adds_one, adds_seen, row-others}
use Rattle.conn_machine.proofs.laws_of_runs.passes_add_entries.Goals as goal

pub returns : goal.returns
returns c =
    record {
      none = adds_none;
      one = adds_one;
      more = adds_more;
      made = adds_made;
      few = adds_few;
      seen = adds_seen;
      row = row-others;
    }
