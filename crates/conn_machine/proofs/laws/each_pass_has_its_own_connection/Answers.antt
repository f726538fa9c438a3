use Rattle.conn_machine.proofs.HandLaw.{folded_own, made_own, none_in_hand, none_in_hand_of, opened_own}
use Rattle.conn_machine.proofs.laws.each_pass_has_its_own_connection.Goals as goal

pub returns : goal.returns
returns c =
    record {
      opened = opened_own;
      made = made_own;
      folded = folded_own;
      nobody = none_in_hand;
      nobody_of = none_in_hand_of;
    }
