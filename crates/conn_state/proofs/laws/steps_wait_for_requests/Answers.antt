use Rattle.conn_state.proofs.ApartLemmas.{waits-for_request}
use Rattle.conn_state.proofs.laws.steps_wait_for_requests.Goals as goal

pub returns : goal.returns
returns c = waits-for_request
