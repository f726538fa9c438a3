use Rattle.conn_machine.proofs.SizeLemmas.{sizes-after}
use Rattle.conn_machine.proofs.laws_of_runs.histories_keep_sizes.Goals as goal

pub returns : goal.returns
returns c = sizes-after
