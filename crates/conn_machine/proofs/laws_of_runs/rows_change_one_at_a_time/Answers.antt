use Rattle.conn_machine.proofs.OwnRows.{get_else}
use Rattle.conn_machine.proofs.SizeLemmas.{length-update}
use Rattle.conn_machine.proofs.UpdateLemmas.{count_update_kept, count_update_more, get_changed, none_update}
use Rattle.conn_machine.proofs.laws_of_runs.rows_change_one_at_a_time.Goals as goal

pub returns : goal.returns
returns c =
    record {
      there = get_changed;
      others = λ rows slot other change ne. get_else change rows slot other ne;
      length = length-update;
      kept = count_update_kept;
      more = count_update_more;
      none = none_update;
    }
