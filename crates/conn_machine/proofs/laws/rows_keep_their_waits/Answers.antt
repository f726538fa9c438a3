use Rattle.conn_machine.proofs.WaitsLaw.{closed_waits_no_more, rows_wait}
use Rattle.conn_machine.proofs.laws.rows_keep_their_waits.Goals as goal

pub returns : goal.returns
returns c =
    record {
      live = rows_wait;
      closed = closed_waits_no_more;
    }
