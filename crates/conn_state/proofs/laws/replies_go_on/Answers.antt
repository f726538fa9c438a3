use Rattle.conn_state.proofs.StreamLemmas.{replies-snoc}
use Rattle.conn_state.proofs.laws.replies_go_on.Goals as goal

pub returns : goal.returns
returns c = replies-snoc
