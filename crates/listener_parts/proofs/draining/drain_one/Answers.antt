use Rattle.std.proofs.Common.{rules, true, false, [], None, inl, inr, refl, sym, ◌∙◌, true≢false}
use Rattle.mpm_base.specs.declared.conn.Tail.TheVariants as tail
use Rattle.listener_turns.specs.declared.held.Due.TheVariants as due
use Rattle.worker_group.specs.declared.service.Exit.TheVariants as exit
use Rattle.board_turns.specs.Books.{state_of}
use Rattle.board_turns.specs.Carries.{Lasts}
use Rattle.listener_parts.specs.Letting.{GivesUpDrained, IsDrainedWay}
use Rattle.listener_parts.proofs.AloneLemmas.{alone_more, left_alone, turn_alone}
use Rattle.listener_parts.proofs.DidLemmas.{did_turn}
use Rattle.listener_parts.proofs.HeldLemmas.{held_lingering, held_lingers, held_way, holds_turned, late_closes, lingering_some}
use Rattle.listener_parts.proofs.LingeringLemmas.{after_not_ready, backs_turned, closes_turned, lingers_turned, may_wait_on, not_ready}
use Rattle.listener_parts.proofs.LettingLemmas.{drained_alone, gives_up_drained, held_alone, held_number, lets_named, lets_one, one_alone, refused_alone, refused_lasts}
use Rattle.listener_parts.proofs.draining.drain_one.Goals as goal

-- ## None has to be drained

pub returns-in_default-clause-none : goal.returns-in_default-clause-none
returns-in_default-clause-none g c _ = did_turn [] None _ _ c.in_default.ensures.none c.in_default.ensures.no_row

pub returns-in_default-clause-one : goal.returns-in_default-clause-one
returns-in_default-clause-one g c z = absurd (true≢false (sym z))

pub returns-in_default-clause-credits : goal.returns-in_default-clause-credits
returns-in_default-clause-credits g c = c.in_default.ensures.none.1.stays.credits

pub returns-in_default-clause-rest : goal.returns-in_default-clause-rest
returns-in_default-clause-rest g c =
    turn_alone c.others_leave_the_rest_to_the_listener.ensures c.turns_rest_on_these.ensures [] _ _ c.requires.listener.number tt c.in_default.ensures.none

pub returns-in_default-clause-quiet : goal.returns-in_default-clause-quiet
returns-in_default-clause-quiet g c _ = c.in_default.ensures.quiet

-- ## One that lingers has a cause

pub unreachable-requires : goal.unreachable-requires
unreachable-requires g c =
    lingering_some g.N.Known.known _ c.in-Some.held.conn c.in-Some.held.kind c.in-Some.held.cause c.in-Some.held.late c.in-Some.ensures.held c.in_default-cause.is

-- ## One whose time is over

pub close-requires-clause-hand : goal.close-requires-clause-hand
close-requires-clause-hand g c = c.hold.ensures.listener.turnless.hand

pub close-requires-clause-holds : goal.close-requires-clause-holds
close-requires-clause-holds g c = c.in-Some.ensures.held.holds

pub close-requires-clause-may : goal.close-requires-clause-may
close-requires-clause-may g c =
    let h = c.in-Some.ensures.held in
    late_closes due.Lingering g.N.Known.known _ c.in-Some.held.conn c.in-Some.held.kind c.in-Some.held.cause c.in-Some.held.late c.in-Some-cause.cause h c.in-Some-cause.is
    (sym h.late_is ∙ c.if-late.true)

pub returns-then-late-clause-one : goal.returns-then-late-clause-one
returns-then-late-clause-one g c _ =
    lets_one IsDrainedWay due.Lingering c.in-Some.held.conn.name (exit.Close c.in-Some-cause.cause tail.Late) _ _ _ (inr (inr (c.in-Some-cause.cause, refl))) c.in-Some.ensures.some
    c.close.ensures.turn c.close.ensures.none

pub returns-then-late-clause-none : goal.returns-then-late-clause-none
returns-then-late-clause-none g c z = absurd (true≢false z)

pub returns-then-late-clause-credits : goal.returns-then-late-clause-credits
returns-then-late-clause-credits g c = c.close.ensures.turn.1.stays.credits ∙ c.in-Some.ensures.some.1.stays.credits

pub returns-then-late-clause-rest : goal.returns-then-late-clause-rest
returns-then-late-clause-rest g c =
    one_alone c.others_leave_the_rest_to_the_listener.ensures c.turns_rest_on_these.ensures due.Lingering c.in-Some.held.conn.name _ _ _ _ c.requires.listener.number
    c.in-Some.ensures.some (left_alone (exit.Close c.in-Some-cause.cause tail.Late) c.in-Some.held.conn.name) c.close.ensures.turn

pub returns-then-late-clause-quiet : goal.returns-then-late-clause-quiet
returns-then-late-clause-quiet g c z = absurd (true≢false z)

-- ## One that was drained

pub linger_turn-requires : goal.linger_turn-requires
linger_turn-requires g c = record {
  lingers =
      (held_way due.Lingering g.N.Known.known _ c.in-Some.held.conn c.in-Some.held.kind c.in-Some.held.cause c.in-Some.held.late c.in-Some-cause.cause
      c.in-Some.ensures.held c.in-Some-cause.is).half_closed;
}

pub close-requires-in-Some-tail_of-clause-hand : goal.close-requires-in-Some-tail_of-clause-hand
close-requires-in-Some-tail_of-clause-hand g c = c.hold.ensures.listener.turnless.hand

pub close-requires-in-Some-tail_of-clause-holds : goal.close-requires-in-Some-tail_of-clause-holds
close-requires-in-Some-tail_of-clause-holds g c = holds_turned g.N.Known.known _ c.in-Some.held.conn c.linger_turn.new.self c.linger_turn.result c.linger_turn.ensures c.in-Some.ensures.held.holds

pub close-requires-in-Some-tail_of-clause-may : goal.close-requires-in-Some-tail_of-clause-may
close-requires-in-Some-tail_of-clause-may g c =
    let s = state_of c.hold.new.pass.seat.me.0 in
    let conn' = c.linger_turn.new.self in
    let why = c.in-Some-cause.cause in
    let lingering =
    held_lingering due.Lingering g.N.Known.known _ c.in-Some.held.conn c.in-Some.held.kind c.in-Some.held.cause c.in-Some.held.late why c.in-Some.ensures.held c.in-Some-cause.is in
    let turned =
    lingers_turned c.waits_are_backed_by_calls.ensures s why c.in-Some.held.conn conn' c.linger_turn.result lingering c.linger_turn.ensures
    (c.lingering_connections_keep_their_cause.ensures.linger_turn c.in-Some.held.conn conn' c.linger_turn.result why c.linger_turn.ensures lingering.shows) in
    closes_turned s why c.in-Some.held.conn conn' c.linger_turn.result c.in-Some-tail_of.tail turned c.linger_turn.ensures (sym c.tail_of.ensures ∙ c.in-Some-tail_of.is)

pub returns-in-Some-tail_of-clause-one : goal.returns-in-Some-tail_of-clause-one
returns-in-Some-tail_of-clause-one g c _ =
    let why = c.in-Some-cause.cause in
    let how = c.in-Some-tail_of.tail in
    lets_named IsDrainedWay due.Lingering c.in-Some.held.conn.name c.linger_turn.new.self.name (exit.Close why how) _ _ _
    (inr (inl (record { why = why; how = how; turn = c.linger_turn.result; shown = sym c.tail_of.ensures ∙ c.in-Some-tail_of.is; way_is = refl }))) c.in-Some.ensures.some
    c.linger_turn.ensures.name c.close-in-Some-tail_of.ensures.turn c.close-in-Some-tail_of.ensures.none

pub returns-in-Some-tail_of-clause-none : goal.returns-in-Some-tail_of-clause-none
returns-in-Some-tail_of-clause-none g c z = absurd (true≢false z)

pub returns-in-Some-tail_of-clause-credits : goal.returns-in-Some-tail_of-clause-credits
returns-in-Some-tail_of-clause-credits g c = c.close-in-Some-tail_of.ensures.turn.1.stays.credits ∙ c.in-Some.ensures.some.1.stays.credits

pub returns-in-Some-tail_of-clause-rest : goal.returns-in-Some-tail_of-clause-rest
returns-in-Some-tail_of-clause-rest g c =
    one_alone c.others_leave_the_rest_to_the_listener.ensures c.turns_rest_on_these.ensures due.Lingering c.in-Some.held.conn.name _ _ _ _ c.requires.listener.number
    c.in-Some.ensures.some (left_alone (exit.Close c.in-Some-cause.cause c.in-Some-tail_of.tail) c.linger_turn.new.self.name) c.close-in-Some-tail_of.ensures.turn

pub returns-in-Some-tail_of-clause-quiet : goal.returns-in-Some-tail_of-clause-quiet
returns-in-Some-tail_of-clause-quiet g c z = absurd (true≢false z)

-- ## One that lingers on

pub linger_on-requires-clause-hand : goal.linger_on-requires-clause-hand
linger_on-requires-clause-hand g c = c.hold.ensures.listener.turnless.hand

pub linger_on-requires-clause-holds : goal.linger_on-requires-clause-holds
linger_on-requires-clause-holds g c = holds_turned g.N.Known.known _ c.in-Some.held.conn c.linger_turn.new.self c.linger_turn.result c.linger_turn.ensures c.in-Some.ensures.held.holds

pub linger_on-requires-clause-lingers : goal.linger_on-requires-clause-lingers
linger_on-requires-clause-lingers g c =
    let s = state_of c.hold.new.pass.seat.me.0 in
    let why = c.in-Some-cause.cause in
    let lingering =
    held_lingering due.Lingering g.N.Known.known _ c.in-Some.held.conn c.in-Some.held.kind c.in-Some.held.cause c.in-Some.held.late why c.in-Some.ensures.held c.in-Some-cause.is in
    lingers_turned c.waits_are_backed_by_calls.ensures s why c.in-Some.held.conn c.linger_turn.new.self c.linger_turn.result lingering c.linger_turn.ensures
    (c.lingering_connections_keep_their_cause.ensures.linger_turn c.in-Some.held.conn c.linger_turn.new.self c.linger_turn.result why c.linger_turn.ensures lingering.shows)

pub linger_on-requires-clause-kind : goal.linger_on-requires-clause-kind
linger_on-requires-clause-kind g c =
    held_lingers due.Lingering g.N.Known.known _ c.in-Some.held.conn c.in-Some.held.kind c.in-Some.held.cause c.in-Some.held.late c.in-Some-cause.cause c.in-Some.ensures.held c.in-Some-cause.is

pub linger_on-requires-clause-allowed : goal.linger_on-requires-clause-allowed
linger_on-requires-clause-allowed g c going =
    may_wait_on due.Lingering g.N.Known.known _ c.in-Some.held.conn c.in-Some.held.kind c.in-Some.held.cause c.in-Some.held.late c.in-Some-cause.cause c.linger_turn.new.self.name
    c.in-Some.ensures.held c.in-Some-cause.is c.if-late.false c.linger_turn.ensures.name going

pub linger_on-requires-clause-waits : goal.linger_on-requires-clause-waits
linger_on-requires-clause-waits g c =
    c.linger_turn.ensures.linger ∙ after_not_ready c.linger_turn.result (not_ready c.linger_turn.result (sym c.tail_of.ensures ∙ c.in-None.is))

pub linger_on-requires-clause-backed : goal.linger_on-requires-clause-backed
linger_on-requires-clause-backed g c =
    let s = state_of c.hold.new.pass.seat.me.0 in
    let why = c.in-Some-cause.cause in
    let lingering =
    held_lingering due.Lingering g.N.Known.known _ c.in-Some.held.conn c.in-Some.held.kind c.in-Some.held.cause c.in-Some.held.late why c.in-Some.ensures.held c.in-Some-cause.is in
    let lingers =
    held_lingers due.Lingering g.N.Known.known _ c.in-Some.held.conn c.in-Some.held.kind c.in-Some.held.cause c.in-Some.held.late why c.in-Some.ensures.held c.in-Some-cause.is in
    backs_turned c.waits_are_backed_by_calls.ensures s why c.in-Some.held.conn c.linger_turn.new.self c.linger_turn.result c.in-Some.held.kind lingering c.linger_turn.ensures
    (not_ready c.linger_turn.result (sym c.tail_of.ensures ∙ c.in-None.is)) lingers

pub returns-in_ok-linger_on-in-None-clause-one : goal.returns-in_ok-linger_on-in-None-clause-one
returns-in_ok-linger_on-in-None-clause-one g c _ =
    let kind = c.in-Some.held.kind in
    let lingers =
    held_lingers due.Lingering g.N.Known.known _ c.in-Some.held.conn kind c.in-Some.held.cause c.in-Some.held.late c.in-Some-cause.cause c.in-Some.ensures.held c.in-Some-cause.is in
    lets_named IsDrainedWay due.Lingering c.in-Some.held.conn.name c.linger_turn.new.self.name (exit.Park kind) _ _ _
    (inl (record { kind = kind; lingers = lingers; way_is = refl })) c.in-Some.ensures.some c.linger_turn.ensures.name c.in_ok-linger_on-in-None.ensures.parked c.linger_on.ensures.none

pub returns-in_ok-linger_on-in-None-clause-none : goal.returns-in_ok-linger_on-in-None-clause-none
returns-in_ok-linger_on-in-None-clause-none g c z = absurd (true≢false z)

pub returns-in_ok-linger_on-in-None-clause-credits : goal.returns-in_ok-linger_on-in-None-clause-credits
returns-in_ok-linger_on-in-None-clause-credits g c = c.in_ok-linger_on-in-None.ensures.parked.1.stays.credits ∙ c.in-Some.ensures.some.1.stays.credits

pub returns-in_ok-linger_on-in-None-clause-rest : goal.returns-in_ok-linger_on-in-None-clause-rest
returns-in_ok-linger_on-in-None-clause-rest g c =
    one_alone c.others_leave_the_rest_to_the_listener.ensures c.turns_rest_on_these.ensures due.Lingering c.in-Some.held.conn.name _ _ _ _ c.requires.listener.number
    c.in-Some.ensures.some (left_alone (exit.Park c.in-Some.held.kind) c.linger_turn.new.self.name) c.in_ok-linger_on-in-None.ensures.parked

pub returns-in_ok-linger_on-in-None-clause-quiet : goal.returns-in_ok-linger_on-in-None-clause-quiet
returns-in_ok-linger_on-in-None-clause-quiet g c z = absurd (true≢false z)

-- ## One whose wait was refused

pub returns-in_err-linger_on-in-None-clause-until : goal.returns-in_err-linger_on-in-None-clause-until
returns-in_err-linger_on-in-None-clause-until g c =
    let until : GivesUpDrained c.in_err-linger_on-in-None.field-0.0 c.args.pass.now.seat.me.0 c.linger_on.new.pass.seat.me.0 =
    gives_up_drained _ due.Lingering c.in-Some.held.conn.name c.linger_turn.new.self.name c.in-Some-cause.cause _ _ _ c.in-Some.ensures.some c.linger_turn.ensures.name
    c.in_err-linger_on-in-None.ensures.refused c.linger_on.ensures.none in
    search (rules, until)

pub returns-in_err-linger_on-in-None-clause-credits : goal.returns-in_err-linger_on-in-None-clause-credits
returns-in_err-linger_on-in-None-clause-credits g c =
    let refused = c.in_err-linger_on-in-None.ensures.refused in
    refused.made.1.stays.credits ∙ refused.tried.1.stays.credits ∙ c.in-Some.ensures.some.1.stays.credits

pub returns-in_err-linger_on-in-None-clause-rest : goal.returns-in_err-linger_on-in-None-clause-rest
returns-in_err-linger_on-in-None-clause-rest g c =
    let law = c.others_leave_the_rest_to_the_listener.ensures in
    let rests = c.turns_rest_on_these.ensures in
    alone_more _ _ _ (held_alone law rests due.Lingering c.in-Some.held.conn.name _ _ c.requires.listener.number c.in-Some.ensures.some)
    (refused_alone law rests c.in_err-linger_on-in-None.field-0.0 _ _ _ (held_number due.Lingering c.in-Some.held.conn.name _ _ c.requires.listener.number c.in-Some.ensures.some)
    (drained_alone c.in_err-linger_on-in-None.field-0.0 c.in-Some-cause.cause c.linger_turn.new.self.name) c.in_err-linger_on-in-None.ensures.refused)

pub returns-in_err-linger_on-in-None-clause-lasts : goal.returns-in_err-linger_on-in-None-clause-lasts
returns-in_err-linger_on-in-None-clause-lasts g c =
    let lasts : Lasts c.in_err-linger_on-in-None.field-0.0 (state_of c.linger_on.new.pass.seat.me.0) =
    refused_lasts c.others_leave_the_rest_to_the_listener.ensures c.turns_rest_on_these.ensures _ _ _ _
    (held_number due.Lingering c.in-Some.held.conn.name _ _ c.requires.listener.number c.in-Some.ensures.some)
    (drained_alone c.in_err-linger_on-in-None.field-0.0 c.in-Some-cause.cause c.linger_turn.new.self.name) c.in_err-linger_on-in-None.ensures.refused in
    search (rules, lasts)
