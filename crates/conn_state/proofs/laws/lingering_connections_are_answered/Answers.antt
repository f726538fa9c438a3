use Rattle.conn_state.proofs.EndLemmas.{answered-lingering}
use Rattle.conn_state.proofs.laws.lingering_connections_are_answered.Goals as goal

pub returns-clause-answered : goal.returns-clause-answered
returns-clause-answered c =
    answered-lingering (record {
      may = c.follows_what_was_read.ensures.may;
      due = c.follows_what_was_read.ensures.due;
      waits = c.steps_wait_for_requests.ensures;
      empty = c.kept_bytes_show_empty_rests.ensures;
    })
