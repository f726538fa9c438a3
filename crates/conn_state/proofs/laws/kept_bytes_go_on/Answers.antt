use Rattle.conn_state.proofs.RestLemmas.{stands-more}
use Rattle.conn_state.proofs.laws.kept_bytes_go_on.Goals as goal

pub returns : goal.returns
returns c = stands-more c.keeps_answer.ensures.whole c.keeps_spelling.ensures.requests c.keeps_spelling.ensures.refusal
