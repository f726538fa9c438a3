use Rattle.conn_state.proofs.RestLemmas.{stands-readable}
use Rattle.conn_state.proofs.laws.kept_bytes_are_readable.Goals as goal

pub returns : goal.returns
returns c = stands-readable
