use Rattle.conn_machine.proofs.CellLaw.{cells_differ, names_of_slot}
use Rattle.conn_machine.proofs.laws.live_connections_share_nothing.Goals as goal

pub returns : goal.returns
returns c =
    record {
      slots = names_of_slot;
      cells = cells_differ;
    }
