use Rattle.std.proofs.Common.{◌∙◌}
use Rattle.listener_turns.proofs.LookLemmas.{rest_stays}
use Rattle.listener_parts.proofs.AloneLemmas.{quiet_alone}
use Rattle.listener_parts.proofs.DroppedLemmas.{dropped_by, only_sees}
use Rattle.listener_parts.proofs.rest.fold_history.Goals as goal

pub returns-clause-sees : goal.returns-clause-sees
returns-clause-sees g c = only_sees _ _ c.fold.ensures.turn (c.fold.ensures.row ∙ c.requires.none)

pub returns-clause-credits : goal.returns-clause-credits
returns-clause-credits g c = c.fold.ensures.turn.stays.credits

pub returns-clause-dropped : goal.returns-clause-dropped
returns-clause-dropped g c d =
    dropped_by c.generations_keep_their_editions.ensures c.ended_connections_join.ensures c.folds_are_one_fold.ensures c.turns_rest_on_these.ensures
    g.N.Known.known _ _ c.fold.result c.fold.ensures.turn c.fold.ensures.folds c.fold.ensures.err d

pub returns-clause-rest : goal.returns-clause-rest
returns-clause-rest g c = quiet_alone c.others_leave_the_rest_to_the_listener.ensures _ _ c.requires.listener.number c.fold.ensures.turn

pub returns-clause-still : goal.returns-clause-still
returns-clause-still g c opened rest =
    let t = c.fold.ensures.turn in
    rest_stays c.quiet_tables_are_the_listeners.ensures c.args.pass.now.seat.me.0 c.fold.new.pass.seat.me.0.seen opened c.requires.listener.number t.made t.others rest
