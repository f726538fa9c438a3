use Rattle.conn_state.proofs.RestLemmas.{expects-more}
use Rattle.conn_state.proofs.laws.expecting_heads_stay.Goals as goal

pub returns : goal.returns
returns c = expects-more c.keeps_answer.ensures.whole
