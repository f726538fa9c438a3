use Rattle.conn_machine.proofs.EndLaw.{before_its_end, others_need_child}
use Rattle.conn_machine.proofs.laws_between_turns.nothing_is_done_behind_the_end.Goals as goal

pub returns : goal.returns
returns c =
    record {
      allowed = before_its_end;
      others = others_need_child;
    }
