use Rattle.conn_machine.proofs.GenerationLaw.{generations_begin}
use Rattle.conn_machine.proofs.laws_of_runs.generations_begin_in_order.Goals as goal

pub returns : goal.returns
returns c = generations_begin
