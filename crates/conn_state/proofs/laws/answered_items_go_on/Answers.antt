use Rattle.conn_state.proofs.StreamLemmas.{fitting-snoc}
use Rattle.conn_state.proofs.laws.answered_items_go_on.Goals as goal

pub returns : goal.returns
returns c = fitting-snoc
