use Rattle.conn_machine.proofs.ArrivalLaw.{taken_once, taken_none}
use Rattle.conn_machine.proofs.laws.arrivals_are_taken_once.Goals as goal

pub returns : goal.returns
returns c =
    record {
      once = taken_once;
      no_other = taken_none;
    }
