use Rattle.lock_examples.proofs.ToyLemmas.{row_found, stays_free, worker_may_end}
use Rattle.lock_examples.proofs.turns.serves_with_permit.Goals as goal

pub done-requires-clause-left : goal.done-requires-clause-left
done-requires-clause-left g c =
    worker_may_end _ _ _ _ c.step-served.new.self c.step-served.result c.turn-turn.ensures.turn c.requires.number c.requires.permit
    (row_found _ _ _ c.turn-turn.ensures.turn c.requires.number c.requires.row c.connections_stay_while_others_go_on.ensures.name)
    c.deref_mut.ensures.value c.step-served.ensures.step

pub returns-clause-row : goal.returns-clause-row
returns-clause-row g c =
    stays_free _ _ _ _ _ c.step-served.new.self c.step-served.result c.turn-turn.ensures.turn c.requires.number
    (row_found _ _ _ c.turn-turn.ensures.turn c.requires.number c.requires.row c.connections_stay_while_others_go_on.ensures.name)
    c.deref_mut.ensures.value c.step-served.ensures.step c.done.ensures.given
