use Rattle.std.proofs.Common.{None, ◌∙◌}
use Rattle.listener_parts.proofs.AloneLemmas.{stands_more, starts_all, turn_stands}
use Rattle.listener_parts.proofs.DidLemmas.{did_nothing}
use Rattle.listener_parts.proofs.RoundLemmas.{credits_stay, startable_still, starts_at_first, starts_end, starts_turn}
use Rattle.listener_parts.proofs.starting.start_first.Goals as goal

-- ## All started

pub credit_all-requires-clause-none : goal.credit_all-requires-clause-none
credit_all-requires-clause-none g c = c.start_children.ensures.row ∙ c.requires.none

pub credit_all-requires-clause-credits : goal.credit_all-requires-clause-credits
credit_all-requires-clause-credits g c = credits_stay c.args.credits.now _ _ c.start_children.ensures.started.2.stays.credits c.requires.credits

pub returns-clause-starts : goal.returns-clause-starts
returns-clause-starts g c =
    let s = c.start_children.ensures.started in
    starts_end _ _ _ (starts_turn s.0 _ _ (s.1, s.2) (c.start_children.ensures.row ∙ c.requires.none)) c.credit_all.ensures.did

pub returns-clause-rest : goal.returns-clause-rest
returns-clause-rest g c =
    let s = c.start_children.ensures.started in
    stands_more _ _ _
    (turn_stands c.others_leave_the_rest_to_the_listener.ensures c.turns_rest_on_these.ensures _ _ _ c.requires.listener.number (starts_all s.0) (s.1, s.2))
    c.credit_all.ensures.rest.stands

pub returns-clause-first : goal.returns-clause-first
returns-clause-first g c =
    let s = c.start_children.ensures.started in
    starts_at_first c.quiet_tables_are_the_listeners.ensures s.0 s.1 _ _ _ c.requires.listener.number s.2 s.3 c.credit_all.ensures.did

pub returns-clause-all : goal.returns-clause-all
returns-clause-all g c = startable_still _ _ c.credit_all.ensures.rest ∙ c.in_ok-start_children.ensures.all

-- ## One was refused

pub returns-in_err-start_children-clause-starts : goal.returns-in_err-start_children-clause-starts
returns-in_err-start_children-clause-starts g c =
    let s = c.start_children.ensures.started in
    starts_turn s.0 _ _ (s.1, s.2) (c.start_children.ensures.row ∙ c.requires.none)

pub returns-in_err-start_children-clause-rest : goal.returns-in_err-start_children-clause-rest
returns-in_err-start_children-clause-rest g c =
    let s = c.start_children.ensures.started in
    turn_stands c.others_leave_the_rest_to_the_listener.ensures c.turns_rest_on_these.ensures _ _ _ c.requires.listener.number (starts_all s.0) (s.1, s.2)

pub returns-in_err-start_children-clause-first : goal.returns-in_err-start_children-clause-first
returns-in_err-start_children-clause-first g c =
    let s = c.start_children.ensures.started in
    starts_at_first c.quiet_tables_are_the_listeners.ensures s.0 s.1 _ _ _ c.requires.listener.number s.2 s.3 (did_nothing _ None (c.start_children.ensures.row ∙ c.requires.none))

pub returns-in_err-start_children-clause-credits : goal.returns-in_err-start_children-clause-credits
returns-in_err-start_children-clause-credits g c = credits_stay c.args.credits.now _ _ c.start_children.ensures.started.2.stays.credits c.requires.credits
