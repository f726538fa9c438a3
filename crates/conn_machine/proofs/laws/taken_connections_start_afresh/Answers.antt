use Rattle.conn_machine.proofs.FreshLaw.{starts_fresh}
use Rattle.conn_machine.proofs.laws.taken_connections_start_afresh.Goals as goal

pub returns : goal.returns
returns c = starts_fresh
