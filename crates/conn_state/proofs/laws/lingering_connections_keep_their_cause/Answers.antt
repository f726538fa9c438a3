use Rattle.conn_state.proofs.EndLemmas.{may_linger-kept}
use Rattle.conn_state.proofs.laws.lingering_connections_keep_their_cause.Goals as goal

pub returns-clause-half_close : goal.returns-clause-half_close
returns-clause-half_close c = λ old new made why shuts. may_linger-kept old new why shuts.turn shuts.notes shuts.pending shuts.reader

pub returns-clause-linger_turn : goal.returns-clause-linger_turn
returns-clause-linger_turn c = λ old new answer why lingers. may_linger-kept old new why lingers.turn lingers.notes lingers.pending lingers.reader
