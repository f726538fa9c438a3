use Rattle.std.proofs.Common.{refl, rules}
use Rattle.conn_state.proofs.EndLemmas.{ended-shown}
use Rattle.conn_state.proofs.KnownLemmas.{client-closed}
use Rattle.conn_state.proofs.conn.Conn.end.Goals as goal

pub returns-clause-ended : goal.returns-clause-ended
returns-clause-ended g c =
    ended-shown
    (record {
      may = c.follows_what_was_read.ensures.may;
      due = c.follows_what_was_read.ensures.due;
      waits = c.steps_wait_for_requests.ensures;
      empty = c.kept_bytes_show_empty_rests.ensures;
    })
    _ c.args.self _ c.self.invariant.conn c.self.view_is c.requires.shown c.close.ensures.told_is c.close.ensures.only_faults (search rules) (search rules) refl
    (search rules) (search rules)

pub returns-clause-client : goal.returns-clause-client
returns-clause-client g c = client-closed _ _ _ c.close.ensures.told_is c.self.invariant.client
