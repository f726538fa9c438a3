use Rattle.std.proofs.Common.{[], None, inl, inr, refl, sym, ◌∙◌, true≢false}
use Rattle.mpm_base.specs.declared.conn.Cause.TheVariants as cause_of
use Rattle.mpm_base.specs.declared.conn.Tail.TheVariants as tail
use Rattle.listener_turns.specs.declared.held.Due.TheVariants as due
use Rattle.worker_group.specs.declared.service.Exit.TheVariants as exit
use Rattle.listener_parts.specs.Closing.{IsHaltedWay}
use Rattle.listener_parts.proofs.AloneLemmas.{left_alone, turn_alone}
use Rattle.listener_parts.proofs.DidLemmas.{did_turn}
use Rattle.listener_parts.proofs.HeldLemmas.{halted_closes, halted_stops}
use Rattle.listener_parts.proofs.LettingLemmas.{lets_one, one_alone}
use Rattle.listener_parts.proofs.closing.close_one.Goals as goal

pub hold-requires-clause-halted : goal.hold-requires-clause-halted
hold-requires-clause-halted g c _ = c.requires.halted

-- ## None waits

pub returns-in_default-clause-none : goal.returns-in_default-clause-none
returns-in_default-clause-none g c _ = did_turn [] None _ _ c.in_default.ensures.none c.in_default.ensures.no_row

pub returns-in_default-clause-one : goal.returns-in_default-clause-one
returns-in_default-clause-one g c z = absurd (true≢false (sym z))

pub returns-in_default-clause-credits : goal.returns-in_default-clause-credits
returns-in_default-clause-credits g c = c.in_default.ensures.none.1.stays.credits

pub returns-in_default-clause-rest : goal.returns-in_default-clause-rest
returns-in_default-clause-rest g c =
    turn_alone c.others_leave_the_rest_to_the_listener.ensures c.turns_rest_on_these.ensures [] _ _ c.requires.listener.number tt c.in_default.ensures.none

pub returns-in_default-clause-quiet : goal.returns-in_default-clause-quiet
returns-in_default-clause-quiet g c _ = c.in_default.ensures.quiet

-- ## One that lingers

pub close-requires-clause-hand : goal.close-requires-clause-hand
close-requires-clause-hand g c = c.hold.ensures.listener.turnless.hand

pub close-requires-clause-holds : goal.close-requires-clause-holds
close-requires-clause-holds g c = c.in-Some.ensures.held.holds

pub close-requires-clause-may : goal.close-requires-clause-may
close-requires-clause-may g c =
    halted_closes g.N.Known.known _ c.in-Some.held.conn c.in-Some.held.kind c.in-Some.held.cause c.in-Some.held.late c.in-Some-cause.cause c.in-Some.ensures.held c.in-Some-cause.is

pub returns-in-Some-cause-clause-one : goal.returns-in-Some-cause-clause-one
returns-in-Some-cause-clause-one g c _ =
    lets_one IsHaltedWay due.Halted c.in-Some.held.conn.name (exit.Close c.in-Some-cause.cause tail.Halted) _ _ _ (inr (c.in-Some-cause.cause, refl)) c.in-Some.ensures.some
    c.close.ensures.turn c.close.ensures.none

pub returns-in-Some-cause-clause-none : goal.returns-in-Some-cause-clause-none
returns-in-Some-cause-clause-none g c z = absurd (true≢false z)

pub returns-in-Some-cause-clause-credits : goal.returns-in-Some-cause-clause-credits
returns-in-Some-cause-clause-credits g c = c.close.ensures.turn.1.stays.credits ∙ c.in-Some.ensures.some.1.stays.credits

pub returns-in-Some-cause-clause-rest : goal.returns-in-Some-cause-clause-rest
returns-in-Some-cause-clause-rest g c =
    one_alone c.others_leave_the_rest_to_the_listener.ensures c.turns_rest_on_these.ensures due.Halted c.in-Some.held.conn.name _ _ _ _ c.requires.listener.number
    c.in-Some.ensures.some (left_alone (exit.Close c.in-Some-cause.cause tail.Halted) c.in-Some.held.conn.name) c.close.ensures.turn

pub returns-in-Some-cause-clause-quiet : goal.returns-in-Some-cause-clause-quiet
returns-in-Some-cause-clause-quiet g c z = absurd (true≢false z)

-- ## One that doesn't

pub close-requires-in-None-clause-hand : goal.close-requires-in-None-clause-hand
close-requires-in-None-clause-hand g c = c.hold.ensures.listener.turnless.hand

pub close-requires-in-None-clause-holds : goal.close-requires-in-None-clause-holds
close-requires-in-None-clause-holds g c = c.in-Some.ensures.held.holds

pub close-requires-in-None-clause-may : goal.close-requires-in-None-clause-may
close-requires-in-None-clause-may g c =
    halted_stops g.N.Known.known _ c.in-Some.held.conn c.in-Some.held.kind c.in-Some.held.cause c.in-Some.held.late c.in-Some.ensures.held c.in-None.is

pub returns-in-None-clause-one : goal.returns-in-None-clause-one
returns-in-None-clause-one g c _ =
    lets_one IsHaltedWay due.Halted c.in-Some.held.conn.name (exit.Close cause_of.Stopped tail.Direct) _ _ _ (inl refl) c.in-Some.ensures.some
    c.close-in-None.ensures.turn c.close-in-None.ensures.none

pub returns-in-None-clause-none : goal.returns-in-None-clause-none
returns-in-None-clause-none g c z = absurd (true≢false z)

pub returns-in-None-clause-credits : goal.returns-in-None-clause-credits
returns-in-None-clause-credits g c = c.close-in-None.ensures.turn.1.stays.credits ∙ c.in-Some.ensures.some.1.stays.credits

pub returns-in-None-clause-rest : goal.returns-in-None-clause-rest
returns-in-None-clause-rest g c =
    one_alone c.others_leave_the_rest_to_the_listener.ensures c.turns_rest_on_these.ensures due.Halted c.in-Some.held.conn.name _ _ _ _ c.requires.listener.number
    c.in-Some.ensures.some (left_alone (exit.Close cause_of.Stopped tail.Direct) c.in-Some.held.conn.name) c.close-in-None.ensures.turn

pub returns-in-None-clause-quiet : goal.returns-in-None-clause-quiet
returns-in-None-clause-quiet g c z = absurd (true≢false z)
