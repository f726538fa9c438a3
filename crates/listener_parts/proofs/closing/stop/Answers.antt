use Rattle.std.proofs.Common.{◌∙◌}
use Rattle.listener_parts.proofs.StopLemmas.{stop_accepted, stop_alone, stop_did, stop_going, stop_may, stop_moment, stop_stays}
use Rattle.listener_parts.proofs.closing.stop.Goals as goal

pub returns-clause-did : goal.returns-clause-did
returns-clause-did g c = stop_did c.args.why c.halt.result _ _ c.halt.ensures.turn (c.halt.ensures.row ∙ c.requires.none)

pub returns-clause-credits : goal.returns-clause-credits
returns-clause-credits g c = c.halt.ensures.turn.1.stays.credits

pub returns-clause-going : goal.returns-clause-going
returns-clause-going g c done = stop_going c.turns_rest_on_these.ensures c.args.why c.halt.result _ _ done c.halt.ensures.turn

pub returns-clause-moment : goal.returns-clause-moment
returns-clause-moment g c =
    stop_moment c.others_leave_the_rest_to_the_listener.ensures c.turns_rest_on_these.ensures c.args.why c.halt.result _ _ c.requires.listener.number c.halt.ensures.turn

pub returns-clause-accepted : goal.returns-clause-accepted
returns-clause-accepted g c =
    stop_accepted c.others_leave_the_rest_to_the_listener.ensures c.turns_rest_on_these.ensures c.args.why c.halt.result _ _ c.requires.listener.number c.halt.ensures.turn

pub returns-clause-stays : goal.returns-clause-stays
returns-clause-stays g c none =
    stop_stays c.others_leave_the_rest_to_the_listener.ensures c.turns_rest_on_these.ensures c.args.why c.halt.result _ _ c.requires.listener.number none c.halt.ensures.turn

pub returns-clause-may : goal.returns-clause-may
returns-clause-may g c own may =
    stop_may c.others_leave_the_rest_to_the_listener.ensures c.turns_rest_on_these.ensures c.args.why c.halt.result _ _ c.requires.listener.number own may
    c.halt.ensures.turn c.halt.ensures.stays

pub returns-clause-alone : goal.returns-clause-alone
returns-clause-alone g c opened none may =
    stop_alone c.quiet_tables_are_the_listeners.ensures c.turns_rest_on_these.ensures c.args.why c.halt.result _ _ c.requires.listener.number opened none may
    c.halt.ensures.turn c.halt.ensures.stays

pub returns-clause-refused : goal.returns-clause-refused
returns-clause-refused g c = c.halt.ensures.stays
