use Rattle.board.proofs.BackedLemmas.{ended_backed}
use Rattle.board.proofs.laws.ended_connections_are_backed.Goals as goal

pub returns : goal.returns
returns c = ended_backed c.rows_keep_their_waits.ensures
