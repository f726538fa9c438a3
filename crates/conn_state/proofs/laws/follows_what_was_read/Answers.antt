use Rattle.conn_state.proofs.FollowLemmas.{follows-may, follows-due, follows-first}
use Rattle.conn_state.proofs.laws.follows_what_was_read.Goals as goal

pub returns-clause-may : goal.returns-clause-may
returns-clause-may c = follows-may c.waiting_clients_are_found.ensures.only

pub returns-clause-due : goal.returns-clause-due
returns-clause-due c = follows-due c.waiting_clients_are_found.ensures.only c.waiting_clients_are_found.ensures.found

pub returns-clause-first : goal.returns-clause-first
returns-clause-first c = follows-first
