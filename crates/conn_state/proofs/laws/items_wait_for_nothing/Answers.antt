use Rattle.conn_state.proofs.ApartLemmas.{waits-apart}
use Rattle.conn_state.proofs.laws.items_wait_for_nothing.Goals as goal

pub returns : goal.returns
returns c = waits-apart c.one_answer.ensures c.one_form.ensures.one
