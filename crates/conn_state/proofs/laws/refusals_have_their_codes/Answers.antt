use Rattle.conn_state.proofs.CodeLemmas.{refusal-code}
use Rattle.conn_state.proofs.laws.refusals_have_their_codes.Goals as goal

pub returns : goal.returns
returns c = refusal-code
