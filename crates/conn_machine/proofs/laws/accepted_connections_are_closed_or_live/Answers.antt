use Rattle.conn_machine.proofs.AcceptedLaw.{accepted_balanced, accepted_counted}
use Rattle.conn_machine.proofs.NamedLaw.{accepted_named}
use Rattle.conn_machine.proofs.laws.accepted_connections_are_closed_or_live.Goals as goal

pub returns : goal.returns
returns c =
    record {
      closed_or_live = accepted_balanced;
      named = accepted_named c.pick_is_a_candidate.ensures.chosen;
      accepted = accepted_counted;
    }
