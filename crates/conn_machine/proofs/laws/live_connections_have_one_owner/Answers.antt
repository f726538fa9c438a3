use Rattle.conn_machine.proofs.OwnerLaw.{held_by_listener, owned_live, worker_has_one}
use Rattle.conn_machine.proofs.laws.live_connections_have_one_owner.Goals as goal

pub returns : goal.returns
returns c =
    record {
      none = owned_live;
      listener = held_by_listener;
      worker = worker_has_one;
    }
