use Rattle.conn_machine.proofs.OwnRows.{get_else}
use Rattle.conn_machine.proofs.SizeLemmas.{length-update}
use Rattle.conn_machine.proofs.UpdateLemmas.{get_changed}
use Rattle.conn_machine.proofs.laws_of_runs.children_change_one_at_a_time.Goals as goal

pub returns : goal.returns
returns c =
    record {
      there = get_changed;
      others = λ children k other change ne. get_else change children k other ne;
      length = length-update;
    }
