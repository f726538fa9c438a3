use Rattle.conn_state.proofs.ApartLemmas.{client-found, found-expects}
use Rattle.conn_state.proofs.laws.waiting_clients_are_found.Goals as goal

pub returns-clause-found : goal.returns-clause-found
returns-clause-found c = client-found c.one_answer.ensures

pub returns-clause-only : goal.returns-clause-only
returns-clause-only c = found-expects
