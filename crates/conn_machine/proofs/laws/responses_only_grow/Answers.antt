use Rattle.conn_machine.proofs.NoteLaw.{responses_grow}
use Rattle.conn_machine.proofs.laws.responses_only_grow.Goals as goal

pub returns : goal.returns
returns c = responses_grow
