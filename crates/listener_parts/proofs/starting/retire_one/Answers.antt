use Rattle.std.proofs.Common.{[], ◌∙◌}
use Rattle.listener_parts.proofs.AloneLemmas.{gone_stands, stands_more, turn_stands}
use Rattle.listener_parts.proofs.RoundLemmas.{alone_still, credit_gone, credits_stay, retires_end, retires_of, retires_one}
use Rattle.listener_parts.proofs.starting.retire_one.Goals as goal

-- ## There is none

pub returns-in_default-clause-retires : goal.returns-in_default-clause-retires
returns-in_default-clause-retires g c = retires_of _ _ c.take_look-look.ensures.turn (c.take_look-look.ensures.row ∙ c.requires.none)

pub returns-in_default-clause-rest : goal.returns-in_default-clause-rest
returns-in_default-clause-rest g c =
    turn_stands c.others_leave_the_rest_to_the_listener.ensures c.turns_rest_on_these.ensures [] _ _ c.requires.listener.number tt c.take_look-look.ensures.turn

pub returns-in_default-clause-credits : goal.returns-in_default-clause-credits
returns-in_default-clause-credits g c = credits_stay c.args.credits.now _ _ c.take_look-look.ensures.turn.1.stays.credits c.requires.credits

pub returns-then-child-ge-CHILDREN-clause-retires : goal.returns-then-child-ge-CHILDREN-clause-retires
returns-then-child-ge-CHILDREN-clause-retires g c = retires_of _ _ c.take_look-look.ensures.turn (c.take_look-look.ensures.row ∙ c.requires.none)

pub returns-then-child-ge-CHILDREN-clause-rest : goal.returns-then-child-ge-CHILDREN-clause-rest
returns-then-child-ge-CHILDREN-clause-rest g c =
    turn_stands c.others_leave_the_rest_to_the_listener.ensures c.turns_rest_on_these.ensures [] _ _ c.requires.listener.number tt c.take_look-look.ensures.turn

pub returns-then-child-ge-CHILDREN-clause-credits : goal.returns-then-child-ge-CHILDREN-clause-credits
returns-then-child-ge-CHILDREN-clause-credits g c = credits_stay c.args.credits.now _ _ c.take_look-look.ensures.turn.1.stays.credits c.requires.credits

-- ## Its credit

pub take_credit_back-requires-clause-none : goal.take_credit_back-requires-clause-none
take_credit_back-requires-clause-none g c = c.take_look-look.ensures.row ∙ c.requires.none

pub take_credit_back-requires-clause-credits : goal.take_credit_back-requires-clause-credits
take_credit_back-requires-clause-credits g c = credits_stay c.args.credits.now _ _ c.take_look-look.ensures.turn.1.stays.credits c.requires.credits

pub returns-then-not-take_credit_back-clause-retires : goal.returns-then-not-take_credit_back-clause-retires
returns-then-not-take_credit_back-clause-retires g c =
    retires_end _ _ _ (retires_of _ _ c.take_look-look.ensures.turn (c.take_look-look.ensures.row ∙ c.requires.none)) c.take_credit_back.ensures.did

pub returns-then-not-take_credit_back-clause-rest : goal.returns-then-not-take_credit_back-clause-rest
returns-then-not-take_credit_back-clause-rest g c =
    stands_more _ _ _
    (turn_stands c.others_leave_the_rest_to_the_listener.ensures c.turns_rest_on_these.ensures [] _ _ c.requires.listener.number tt c.take_look-look.ensures.turn)
    (alone_still c.take_look-look.new.pass.seat.me.0 c.take_credit_back.new.pass.seat.me.0 c.take_credit_back.ensures.did.origin c.take_credit_back.ensures.seen).stands

-- ## It is let go of

pub retire_child-requires-clause-none : goal.retire_child-requires-clause-none
retire_child-requires-clause-none g c =
    credit_gone c.args.credits.now c.take_credit_back.new.credits c.in-Some.child _ (c.take_credit_back.ensures.back c.if-not-take_credit_back.false)
    c.take_credit_back.ensures.credits

pub returns-clause-retires : goal.returns-clause-retires
returns-clause-retires g c =
    retires_one _ _ _ _ c.in-Some.child c.retire_child.result (retires_of _ _ c.take_look-look.ensures.turn (c.take_look-look.ensures.row ∙ c.requires.none))
    c.take_credit_back.ensures.did c.retire_child.ensures.turn (c.retire_child.ensures.row ∙ c.take_credit_back.ensures.did.row)

pub returns-clause-rest : goal.returns-clause-rest
returns-clause-rest g c =
    let law = c.others_leave_the_rest_to_the_listener.ensures in
    let rests = c.turns_rest_on_these.ensures in
    stands_more _ _ _
    (stands_more _ _ _ (turn_stands law rests [] _ _ c.requires.listener.number tt c.take_look-look.ensures.turn)
    (alone_still c.take_look-look.new.pass.seat.me.0 c.take_credit_back.new.pass.seat.me.0 c.take_credit_back.ensures.did.origin c.take_credit_back.ensures.seen).stands)
    (turn_stands law rests _ _ _ c.take_credit_back.ensures.listener.number (gone_stands c.in-Some.child c.retire_child.result) c.retire_child.ensures.turn)

pub returns-clause-credits : goal.returns-clause-credits
returns-clause-credits g c = credits_stay c.take_credit_back.new.credits _ _ c.retire_child.ensures.turn.1.stays.credits c.take_credit_back.ensures.credits
