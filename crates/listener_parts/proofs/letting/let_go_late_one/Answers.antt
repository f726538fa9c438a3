use Rattle.std.proofs.Common.{◌≡◌, true, false, [], None, inl, inr, refl, sym, subst, ◌∙◌, true≢false}
use Rattle.mpm_base.specs.declared.conn.Cause.{Cause}
use Rattle.mpm_base.specs.declared.conn.Tail.TheVariants as tail
use Rattle.conn_machine.specs.declared.event.Event.TheVariants as event
use Rattle.conn_machine.specs.Table.{is_allowed}
use Rattle.conn_state.specs.Answered.{MayLinger}
use Rattle.board_turns.specs.Books.{state_of}
use Rattle.listener_turns.specs.declared.held.Due.TheVariants as due
use Rattle.worker_group.specs.declared.service.Exit.TheVariants as exit
use Rattle.worker_group.specs.Service.{IsWayOut}
use Rattle.listener_parts.specs.Letting.{IsLateWay}
use Rattle.listener_parts.proofs.AloneLemmas.{left_alone, turn_alone}
use Rattle.listener_parts.proofs.DidLemmas.{did_turn}
use Rattle.listener_parts.proofs.HeldLemmas.{held_hand, held_open, held_serves, late_by, late_closes, late_lingers, late_shows}
use Rattle.listener_parts.proofs.LettingLemmas.{lets_one, one_alone}
use Rattle.listener_parts.proofs.letting.let_go_late_one.Goals as goal

-- ## None is late

pub returns-in_default-clause-none : goal.returns-in_default-clause-none
returns-in_default-clause-none g c _ = did_turn [] None _ _ c.in_default.ensures.none c.in_default.ensures.no_row

pub returns-in_default-clause-one : goal.returns-in_default-clause-one
returns-in_default-clause-one g c z = absurd (true≢false (sym z))

pub returns-in_default-clause-credits : goal.returns-in_default-clause-credits
returns-in_default-clause-credits g c = c.in_default.ensures.none.1.stays.credits

pub returns-in_default-clause-rest : goal.returns-in_default-clause-rest
returns-in_default-clause-rest g c =
    turn_alone c.others_leave_the_rest_to_the_listener.ensures c.turns_rest_on_these.ensures [] _ _ c.requires.listener.number tt c.in_default.ensures.none

pub returns-in_default-clause-quiet : goal.returns-in_default-clause-quiet
returns-in_default-clause-quiet g c _ = c.in_default.ensures.quiet

-- ## One that lingers

pub close-requires-clause-hand : goal.close-requires-clause-hand
close-requires-clause-hand g c = c.hold.ensures.listener.turnless.hand

pub close-requires-clause-holds : goal.close-requires-clause-holds
close-requires-clause-holds g c = c.in-Some.ensures.held.holds

pub close-requires-clause-may : goal.close-requires-clause-may
close-requires-clause-may g c =
    let h = c.in-Some.ensures.held in
    late_closes due.Late g.N.Known.known _ c.in-Some.held.conn c.in-Some.held.kind c.in-Some.held.cause c.in-Some.held.late c.in-Some-cause.cause h c.in-Some-cause.is
    (late_by g.N.Known.known _ _ _ _ _ h)

-- ## One that doesn't

pub cause_of_late-requires : goal.cause_of_late-requires
cause_of_late-requires g c =
    held_serves due.Late g.N.Known.known _ c.in-Some.held.conn c.in-Some.held.kind c.in-Some.held.cause c.in-Some.held.late c.in-Some.ensures.held c.in-None.is

pub linger_for-requires-clause-hand : goal.linger_for-requires-clause-hand
linger_for-requires-clause-hand g c = c.hold.ensures.listener.turnless.hand

pub linger_for-requires-clause-holds : goal.linger_for-requires-clause-holds
linger_for-requires-clause-holds g c = c.in-Some.ensures.held.holds

pub linger_for-requires-clause-in_hand : goal.linger_for-requires-clause-in_hand
linger_for-requires-clause-in_hand g c =
    held_hand due.Late g.N.Known.known _ c.in-Some.held.conn c.in-Some.held.kind c.in-Some.held.cause c.in-Some.held.late c.in-Some.ensures.held c.in-None.is

pub linger_for-requires-clause-is_open : goal.linger_for-requires-clause-is_open
linger_for-requires-clause-is_open g c =
    held_open due.Late g.N.Known.known _ c.in-Some.held.conn c.in-Some.held.kind c.in-Some.held.cause c.in-Some.held.late c.in-Some.ensures.held c.in-None.is

pub linger_for-requires-clause-allowed : goal.linger_for-requires-clause-allowed
linger_for-requires-clause-allowed g c =
    subst (λ (why : Cause). is_allowed (state_of c.hold.new.pass.seat.me.0) (event.Linger c.in-Some.held.conn.name why) ≡ true) (sym c.cause_of_late.ensures)
    (late_lingers g.N.Known.known _ c.in-Some.held.conn c.in-Some.held.kind c.in-Some.held.cause c.in-Some.held.late c.in-Some.ensures.held c.in-None.is)

pub linger_for-requires-clause-shows : goal.linger_for-requires-clause-shows
linger_for-requires-clause-shows g c =
    subst (λ (why : Cause). MayLinger why c.in-Some.held.conn) (sym c.cause_of_late.ensures)
    (late_shows c.untouched_connections_may_be_late.ensures due.Late g.N.Known.known _ c.in-Some.held.conn c.in-Some.held.kind c.in-Some.held.cause c.in-Some.held.late
    c.in-Some.ensures.held c.in-None.is)

-- ## What was done

pub returns-in-Some-cause-clause-one : goal.returns-in-Some-cause-clause-one
returns-in-Some-cause-clause-one g c _ =
    lets_one IsLateWay due.Late c.in-Some.held.conn.name (exit.Close c.in-Some-cause.cause tail.Late) _ _ _ (inr (c.in-Some-cause.cause, refl)) c.in-Some.ensures.some
    c.close.ensures.turn c.close.ensures.none

pub returns-in-Some-cause-clause-none : goal.returns-in-Some-cause-clause-none
returns-in-Some-cause-clause-none g c z = absurd (true≢false z)

pub returns-in-Some-cause-clause-credits : goal.returns-in-Some-cause-clause-credits
returns-in-Some-cause-clause-credits g c = c.close.ensures.turn.1.stays.credits ∙ c.in-Some.ensures.some.1.stays.credits

pub returns-in-Some-cause-clause-rest : goal.returns-in-Some-cause-clause-rest
returns-in-Some-cause-clause-rest g c =
    one_alone c.others_leave_the_rest_to_the_listener.ensures c.turns_rest_on_these.ensures due.Late c.in-Some.held.conn.name _ _ _ _ c.requires.listener.number
    c.in-Some.ensures.some (left_alone (exit.Close c.in-Some-cause.cause tail.Late) c.in-Some.held.conn.name) c.close.ensures.turn

pub returns-in-Some-cause-clause-quiet : goal.returns-in-Some-cause-clause-quiet
returns-in-Some-cause-clause-quiet g c z = absurd (true≢false z)

pub returns-in-None-clause-one : goal.returns-in-None-clause-one
returns-in-None-clause-one g c _ =
    let left = c.linger_for.ensures.left in
    let serves =
    held_serves due.Late g.N.Known.known _ c.in-Some.held.conn c.in-Some.held.kind c.in-Some.held.cause c.in-Some.held.late c.in-Some.ensures.held c.in-None.is in
    lets_one IsLateWay due.Late c.in-Some.held.conn.name left.0 _ _ _
    (inl (record { kind = c.in-Some.held.kind; serves = serves; out = subst (λ (why : Cause). IsWayOut why left.0) c.cause_of_late.ensures left.1 })) c.in-Some.ensures.some
    left.2 c.linger_for.ensures.none

pub returns-in-None-clause-none : goal.returns-in-None-clause-none
returns-in-None-clause-none g c z = absurd (true≢false z)

pub returns-in-None-clause-credits : goal.returns-in-None-clause-credits
returns-in-None-clause-credits g c = c.linger_for.ensures.left.2.1.stays.credits ∙ c.in-Some.ensures.some.1.stays.credits

pub returns-in-None-clause-rest : goal.returns-in-None-clause-rest
returns-in-None-clause-rest g c =
    let left = c.linger_for.ensures.left in
    one_alone c.others_leave_the_rest_to_the_listener.ensures c.turns_rest_on_these.ensures due.Late c.in-Some.held.conn.name _ _ _ _ c.requires.listener.number
    c.in-Some.ensures.some (left_alone left.0 c.in-Some.held.conn.name) left.2

pub returns-in-None-clause-quiet : goal.returns-in-None-clause-quiet
returns-in-None-clause-quiet g c z = absurd (true≢false z)
