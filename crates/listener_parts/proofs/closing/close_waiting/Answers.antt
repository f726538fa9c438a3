use Rattle.std.proofs.Common.{ap, refl, ◌∙◌}
use Rattle.conn_machine.specs.States.{is_halted}
use Rattle.listener_parts.specs.Closing.{IsHaltedWay}
use Rattle.listener_parts.proofs.AloneLemmas.{alone_more, alone_same}
use Rattle.listener_parts.proofs.LettingLemmas.{lets_end, lets_more, lets_none}
use Rattle.listener_parts.proofs.closing.close_waiting.Goals as goal

pub loop-init : goal.loop-init
loop-init g c = record {
  own = refl;
  listener = c.requires.listener;
  gone = lets_none IsHaltedWay c.args.pass.now.seat.me.0 c.requires.none;
  credits = refl;
  rest = alone_same _;
}

pub close_one-requires-clause-none : goal.close_one-requires-clause-none
close_one-requires-clause-none g c = c.loop.invariant.gone.did.row

pub close_one-requires-clause-halted : goal.close_one-requires-clause-halted
close_one-requires-clause-halted g c = ap is_halted c.loop.invariant.rest.stands.going ∙ c.requires.halted

pub loop-preserved : goal.loop-preserved
loop-preserved g c = record {
  own = c.close_one.ensures.own ∙ c.loop.invariant.own;
  listener = c.close_one.ensures.listener;
  gone = lets_more IsHaltedWay _ _ _ c.loop.invariant.gone (c.close_one.ensures.one c.if-not-close_one.false);
  credits = c.close_one.ensures.credits ∙ c.loop.invariant.credits;
  rest = alone_more _ _ _ c.loop.invariant.rest c.close_one.ensures.rest;
}

pub returns-then-not-close_one-clause-gone : goal.returns-then-not-close_one-clause-gone
returns-then-not-close_one-clause-gone g c =
    lets_end IsHaltedWay _ _ _ c.loop.invariant.gone (c.close_one.ensures.none c.if-not-close_one.true)

pub returns-then-not-close_one-clause-rest : goal.returns-then-not-close_one-clause-rest
returns-then-not-close_one-clause-rest g c = alone_more _ _ _ c.loop.invariant.rest c.close_one.ensures.rest

pub returns-then-not-close_one-clause-quiet : goal.returns-then-not-close_one-clause-quiet
returns-then-not-close_one-clause-quiet g c = c.close_one.ensures.quiet c.if-not-close_one.true
