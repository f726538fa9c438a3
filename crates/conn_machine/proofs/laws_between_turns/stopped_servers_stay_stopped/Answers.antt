use Rattle.conn_machine.proofs.BetweenTurnsLaw.{stays_stopped, stops_for_good}
use Rattle.conn_machine.proofs.laws_between_turns.stopped_servers_stay_stopped.Goals as goal

pub returns : goal.returns
returns c =
    record {
      run = stops_for_good;
      seen = stays_stopped;
    }
