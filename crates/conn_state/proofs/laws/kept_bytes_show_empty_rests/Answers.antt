use Rattle.conn_state.proofs.ApartLemmas.{empty-rest}
use Rattle.conn_state.proofs.laws.kept_bytes_show_empty_rests.Goals as goal

pub returns : goal.returns
returns c = empty-rest c.one_answer.ensures c.one_form.ensures.one
