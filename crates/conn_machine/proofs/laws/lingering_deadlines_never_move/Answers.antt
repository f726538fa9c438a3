use Rattle.conn_machine.proofs.LingerLaw.{lingers_on}
use Rattle.conn_machine.proofs.laws.lingering_deadlines_never_move.Goals as goal

pub returns : goal.returns
returns c = lingers_on
