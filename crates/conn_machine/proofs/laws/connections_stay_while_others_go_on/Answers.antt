use Rattle.conn_machine.proofs.HandLaw.{name_stays, own_row_stays}
use Rattle.conn_machine.proofs.laws.connections_stay_while_others_go_on.Goals as goal

pub returns : goal.returns
returns c =
    record {
      name = name_stays;
      row = own_row_stays;
    }
