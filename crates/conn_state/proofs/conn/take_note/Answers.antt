use Rattle.std.proofs.Common.{sym, ◌∙◌}
use Rattle.std.proofs.lemmas.Option.{none-some, same_Some}
use Rattle.conn_state.proofs.conn.take_note.Goals as goal
use Rattle.conn_state.proofs.conn.take_note.Goals.{in-Some+in_ok-unsent-in-Some, in-None+in_ok-unsent-in-None}

pub returns-clause-planned : goal.returns-clause-planned
returns-clause-planned c request is =
    elim c.match-plan.branch [
      | in-Some+in_ok-unsent-in-Some w ↦ rw w.unsent-is (w.in_ok-unsent-in-Some.ensures.response request (same_Some _ _ (sym w.in-Some.is ∙ is)))
      | in-None+in_ok-unsent-in-None w ↦ absurd (none-some _ (sym w.in-None.is ∙ is))
    ]
