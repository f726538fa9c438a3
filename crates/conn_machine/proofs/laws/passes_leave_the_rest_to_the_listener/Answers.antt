use Rattle.conn_machine.proofs.PassLaw.{adds_ask_none, adds_clear, adds_only_serve}
use Rattle.conn_machine.proofs.laws.passes_leave_the_rest_to_the_listener.Goals as goal

pub returns : goal.returns
returns c =
    record {
      rest = adds_only_serve;
      asking = adds_ask_none;
      queued = adds_clear;
    }
