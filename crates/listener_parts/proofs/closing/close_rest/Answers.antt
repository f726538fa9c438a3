use Rattle.std.proofs.Common.{[], None, ap, sym, refl, ◌∙◌}
use Rattle.conn_machine.specs.States.{is_halted}
use Rattle.listener_parts.specs.Closing.{IsHaltedWay}
use Rattle.listener_parts.proofs.AloneLemmas.{alone_more, alone_same, turn_alone}
use Rattle.listener_parts.proofs.DidLemmas.{did_turn}
use Rattle.listener_parts.proofs.LettingLemmas.{lets_end, lets_join, lets_none}
use Rattle.listener_parts.proofs.DownLemmas.{not_live}
use Rattle.listener_parts.proofs.closing.close_rest.Goals as goal

pub loop-init : goal.loop-init
loop-init g c = record {
  own = refl;
  listener = c.requires.listener;
  gone = lets_none IsHaltedWay c.args.pass.now.seat.me.0 c.requires.none;
  credits = refl;
  rest = alone_same _;
}

pub close_waiting-requires-clause-none : goal.close_waiting-requires-clause-none
close_waiting-requires-clause-none g c = c.loop.invariant.gone.did.row

pub close_waiting-requires-clause-halted : goal.close_waiting-requires-clause-halted
close_waiting-requires-clause-halted g c = ap is_halted c.loop.invariant.rest.stands.going ∙ c.requires.halted

pub loop-preserved : goal.loop-preserved
loop-preserved g c = record {
  own = c.take_look-look.ensures.own ∙ c.close_waiting.ensures.own ∙ c.loop.invariant.own;
  listener = c.take_look-look.ensures.listener;
  gone =
      lets_end IsHaltedWay _ _ _ (lets_join IsHaltedWay _ _ _ c.loop.invariant.gone c.close_waiting.ensures.gone)
      (did_turn [] None _ _ c.take_look-look.ensures.turn (c.take_look-look.ensures.row ∙ c.close_waiting.ensures.gone.did.row));
  credits = c.take_look-look.ensures.turn.1.stays.credits ∙ c.close_waiting.ensures.credits ∙ c.loop.invariant.credits;
  rest =
      alone_more _ _ _ c.loop.invariant.rest
      (alone_more _ _ _ c.close_waiting.ensures.rest
      (turn_alone c.others_leave_the_rest_to_the_listener.ensures c.turns_rest_on_these.ensures [] _ _ c.close_waiting.ensures.listener.number tt
      c.take_look-look.ensures.turn));
}

pub returns-then-not-look-clause-gone : goal.returns-then-not-look-clause-gone
returns-then-not-look-clause-gone g c =
    lets_end IsHaltedWay _ _ _ (lets_join IsHaltedWay _ _ _ c.loop.invariant.gone c.close_waiting.ensures.gone)
    (did_turn [] None _ _ c.take_look-look.ensures.turn (c.take_look-look.ensures.row ∙ c.close_waiting.ensures.gone.did.row))

pub returns-then-not-look-clause-credits : goal.returns-then-not-look-clause-credits
returns-then-not-look-clause-credits g c =
    c.take_look-look.ensures.turn.1.stays.credits ∙ c.close_waiting.ensures.credits ∙ c.loop.invariant.credits

pub returns-then-not-look-clause-rest : goal.returns-then-not-look-clause-rest
returns-then-not-look-clause-rest g c =
    alone_more _ _ _ c.loop.invariant.rest
    (alone_more _ _ _ c.close_waiting.ensures.rest
    (turn_alone c.others_leave_the_rest_to_the_listener.ensures c.turns_rest_on_these.ensures [] _ _ c.close_waiting.ensures.listener.number tt
    c.take_look-look.ensures.turn))

pub returns-then-not-look-clause-live : goal.returns-then-not-look-clause-live
returns-then-not-look-clause-live g c = sym c.take_look-look.ensures.seen.live ∙ not_live c.take_look-look.result.live c.if-not-look.true
