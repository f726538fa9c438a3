use Rattle.std.proofs.Common.{◌∙◌}
use Rattle.listener_parts.proofs.OrderLemmas.{order_credits, order_done, order_refused}
use Rattle.listener_parts.proofs.ordering.order.Goals as goal

pub returns-clause-does : goal.returns-clause-does
returns-clause-does g c =
    order_done c.generations_keep_their_editions.ensures c.turns_rest_on_these.ensures c.others_leave_the_rest_to_the_listener.ensures
    c.own_events_tell_the_frame.ensures c.own_events_tell_what_was_taken.ensures c.args.order _ _ c.command.result c.requires.listener.number
    (c.command.ensures.row ∙ c.requires.none) c.command.ensures.turn

pub returns-clause-err : goal.returns-clause-err
returns-clause-err g c =
    order_refused c.turns_rest_on_these.ensures c.others_leave_the_rest_to_the_listener.ensures c.own_events_tell_what_was_taken.ensures _ _ c.command.result
    c.requires.listener.number (c.command.ensures.row ∙ c.requires.none) c.command.ensures.err

pub returns-clause-credits : goal.returns-clause-credits
returns-clause-credits g c = order_credits c.args.order _ _ c.command.result c.command.ensures.turn c.command.ensures.err
