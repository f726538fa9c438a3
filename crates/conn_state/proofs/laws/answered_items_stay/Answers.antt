use Rattle.conn_state.proofs.StreamLemmas.{fitting-more}
use Rattle.conn_state.proofs.laws.answered_items_stay.Goals as goal

pub returns : goal.returns
returns c = fitting-more c.keeps_spelling.ensures.requests c.keeps_spelling.ensures.refusal
