use Rattle.conn_state.proofs.StreamLemmas.{some-response}
use Rattle.conn_state.proofs.laws.responses_have_bytes.Goals as goal

pub returns : goal.returns
returns c = some-response
