use Rattle.std.proofs.Common.{true, false, [], None, sym, ◌∙◌, true≢false}
use Rattle.listener_turns.specs.declared.held.Due.TheVariants as due
use Rattle.listener_parts.specs.Letting.{IsRetiringWay}
use Rattle.listener_parts.proofs.AloneLemmas.{left_alone, turn_alone}
use Rattle.listener_parts.proofs.DidLemmas.{did_turn}
use Rattle.listener_parts.proofs.HeldLemmas.{held_hand, held_open, retiring_lingers, retiring_none, retiring_shows}
use Rattle.listener_parts.proofs.LettingLemmas.{lets_one, one_alone}
use Rattle.listener_parts.proofs.letting.let_go_retiring_one.Goals as goal

-- ## None retires

pub returns-in_default-clause-none : goal.returns-in_default-clause-none
returns-in_default-clause-none g c _ = did_turn [] None _ _ c.in_default.ensures.none c.in_default.ensures.no_row

pub returns-in_default-clause-one : goal.returns-in_default-clause-one
returns-in_default-clause-one g c z = absurd (true≢false (sym z))

pub returns-in_default-clause-credits : goal.returns-in_default-clause-credits
returns-in_default-clause-credits g c = c.in_default.ensures.none.1.stays.credits

pub returns-in_default-clause-rest : goal.returns-in_default-clause-rest
returns-in_default-clause-rest g c =
    turn_alone c.others_leave_the_rest_to_the_listener.ensures c.turns_rest_on_these.ensures [] _ _ c.requires.listener.number tt c.in_default.ensures.none

pub returns-in_default-clause-quiet : goal.returns-in_default-clause-quiet
returns-in_default-clause-quiet g c _ = c.in_default.ensures.quiet

-- ## One that does

pub linger_for-requires-clause-hand : goal.linger_for-requires-clause-hand
linger_for-requires-clause-hand g c = c.hold.ensures.listener.turnless.hand

pub linger_for-requires-clause-holds : goal.linger_for-requires-clause-holds
linger_for-requires-clause-holds g c = c.in-Some.ensures.held.holds

pub linger_for-requires-clause-in_hand : goal.linger_for-requires-clause-in_hand
linger_for-requires-clause-in_hand g c =
    let h = c.in-Some.ensures.held in
    held_hand due.Retiring g.N.Known.known _ _ _ _ _ h (retiring_none g.N.Known.known _ _ _ _ _ h)

pub linger_for-requires-clause-is_open : goal.linger_for-requires-clause-is_open
linger_for-requires-clause-is_open g c =
    let h = c.in-Some.ensures.held in
    held_open due.Retiring g.N.Known.known _ _ _ _ _ h (retiring_none g.N.Known.known _ _ _ _ _ h)

pub linger_for-requires-clause-allowed : goal.linger_for-requires-clause-allowed
linger_for-requires-clause-allowed g c = retiring_lingers g.N.Known.known _ _ _ _ _ c.in-Some.ensures.held

pub linger_for-requires-clause-shows : goal.linger_for-requires-clause-shows
linger_for-requires-clause-shows g c = retiring_shows g.N.Known.known _ _ _ _ _ c.in-Some.ensures.held

pub returns-clause-one : goal.returns-clause-one
returns-clause-one g c _ =
    let left = c.linger_for.ensures.left in
    lets_one IsRetiringWay due.Retiring c.in-Some.held.conn.name left.0 _ _ _ left.1 c.in-Some.ensures.some left.2 c.linger_for.ensures.none

pub returns-clause-none : goal.returns-clause-none
returns-clause-none g c z = absurd (true≢false z)

pub returns-clause-credits : goal.returns-clause-credits
returns-clause-credits g c = c.linger_for.ensures.left.2.1.stays.credits ∙ c.in-Some.ensures.some.1.stays.credits

pub returns-clause-rest : goal.returns-clause-rest
returns-clause-rest g c =
    let left = c.linger_for.ensures.left in
    one_alone c.others_leave_the_rest_to_the_listener.ensures c.turns_rest_on_these.ensures due.Retiring c.in-Some.held.conn.name _ _ _ _ c.requires.listener.number
    c.in-Some.ensures.some (left_alone left.0 c.in-Some.held.conn.name) left.2

pub returns-clause-quiet : goal.returns-clause-quiet
returns-clause-quiet g c z = absurd (true≢false z)
