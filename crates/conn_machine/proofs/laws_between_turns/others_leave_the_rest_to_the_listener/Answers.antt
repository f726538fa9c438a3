use Rattle.conn_machine.proofs.BetweenTurnsLaw.{others_ask_none, others_only_serve}
use Rattle.conn_machine.proofs.laws_between_turns.others_leave_the_rest_to_the_listener.Goals as goal

pub returns : goal.returns
returns c =
    record {
      rest = others_only_serve;
      asking = others_ask_none;
    }
