use Rattle.conn_state.proofs.ItemLemmas.{first-more}
use Rattle.conn_state.proofs.laws.first_items_stay.Goals as goal

pub returns : goal.returns
returns c = first-more c.keeps_spelling.ensures.requests c.keeps_spelling.ensures.refusal
