use Rattle.std.proofs.Common.{ap, ◌∙◌}
use Rattle.std.specs.List.{list_any}
use Rattle.conn_machine.specs.declared.state.State.{State}
use Rattle.conn_machine.specs.Rows.{is_live}
use Rattle.conn_machine.specs.States.{is_halted}
use Rattle.listener_parts.specs.Closing.{IsHaltedWay}
use Rattle.listener_parts.proofs.AloneLemmas.{alone_more, stands_more}
use Rattle.listener_parts.proofs.DownLemmas.{is_closed_down}
use Rattle.listener_parts.proofs.LettingLemmas.{lets_end, lets_join}
use Rattle.listener_parts.proofs.RoundLemmas.{alone_still, credits_stay, opened_still, still_state}
use Rattle.listener_parts.proofs.StopLemmas.{closes_down}
use Rattle.listener_parts.proofs.closing.close_down.Goals as goal

pub close_rest-requires-clause-none : goal.close_rest-requires-clause-none
close_rest-requires-clause-none g c = c.close_waiting.ensures.gone.did.row

pub close_rest-requires-clause-halted : goal.close_rest-requires-clause-halted
close_rest-requires-clause-halted g c = ap is_halted c.close_waiting.ensures.rest.stands.going ∙ c.requires.halted

pub take_credits_back_at_last-requires-clause-none : goal.take_credits_back_at_last-requires-clause-none
take_credits_back_at_last-requires-clause-none g c = c.close_rest.ensures.gone.did.row

pub take_credits_back_at_last-requires-clause-credits : goal.take_credits_back_at_last-requires-clause-credits
take_credits_back_at_last-requires-clause-credits g c =
    credits_stay c.args.credits.now _ _ (c.close_rest.ensures.credits ∙ c.close_waiting.ensures.credits) c.requires.credits

pub retire_rest-requires-clause-none : goal.retire_rest-requires-clause-none
retire_rest-requires-clause-none g c = c.take_credits_back_at_last.ensures.did.row

pub returns-clause-down : goal.returns-clause-down
returns-clause-down g c =
    closes_down _ _ _
    (lets_end IsHaltedWay _ _ _ (lets_join IsHaltedWay _ _ _ c.close_waiting.ensures.gone c.close_rest.ensures.gone) c.take_credits_back_at_last.ensures.did)
    c.retire_rest.ensures.retires

pub returns-clause-rest : goal.returns-clause-rest
returns-clause-rest g c =
    stands_more _ _ _
    (alone_more _ _ _ (alone_more _ _ _ c.close_waiting.ensures.rest c.close_rest.ensures.rest)
    (alone_still c.close_rest.new.pass.seat.me.0 c.take_credits_back_at_last.new.pass.seat.me.0 c.take_credits_back_at_last.ensures.did.origin c.take_credits_back_at_last.ensures.seen)).stands
    c.retire_rest.ensures.rest

pub returns-clause-closed : goal.returns-clause-closed
returns-clause-closed g c =
    let back = c.take_credits_back_at_last.ensures in
    let opened =
    opened_still c.args.pass.now.seat.me.0 c.take_credits_back_at_last.new.pass.seat.me.0 (back.did.origin ∙ c.close_rest.ensures.gone.did.origin ∙ c.close_waiting.ensures.gone.did.origin) c.requires.opened in
    let none = ap (λ (s : State). list_any is_live s.rows) (still_state c.close_rest.new.pass.seat.me.0 c.take_credits_back_at_last.new.pass.seat.me.0 back.did.origin back.seen) ∙ c.close_rest.ensures.live in
    let stands =
    stands_more _ _ _
    (alone_more _ _ _ (alone_more _ _ _ c.close_waiting.ensures.rest c.close_rest.ensures.rest) (alone_still c.close_rest.new.pass.seat.me.0 c.take_credits_back_at_last.new.pass.seat.me.0 back.did.origin back.seen)).stands
    c.retire_rest.ensures.rest in
    is_closed_down _ c.retire_rest.ensures.sound (ap is_halted stands.going ∙ c.requires.halted) c.retire_rest.ensures.all
    (c.retire_rest.ensures.live opened none)
