use Rattle.std.proofs.Common.{refl, ◌∙◌}
use Rattle.listener_parts.specs.Letting.{IsLateWay}
use Rattle.listener_parts.proofs.AloneLemmas.{alone_more, alone_same}
use Rattle.listener_parts.proofs.LettingLemmas.{lets_end, lets_more, lets_none}
use Rattle.listener_parts.proofs.letting.let_go_late.Goals as goal

pub loop-init : goal.loop-init
loop-init g c = record {
  own = refl;
  listener = c.requires.listener;
  gone = lets_none IsLateWay c.args.pass.now.seat.me.0 c.requires.none;
  credits = refl;
  rest = alone_same _;
}

pub let_go_late_one-requires-clause-none : goal.let_go_late_one-requires-clause-none
let_go_late_one-requires-clause-none g c = c.loop.invariant.gone.did.row

pub loop-preserved : goal.loop-preserved
loop-preserved g c = record {
  own = c.let_go_late_one.ensures.own ∙ c.loop.invariant.own;
  listener = c.let_go_late_one.ensures.listener;
  gone = lets_more IsLateWay _ _ _ c.loop.invariant.gone (c.let_go_late_one.ensures.one c.if-not-let_go_late_one.false);
  credits = c.let_go_late_one.ensures.credits ∙ c.loop.invariant.credits;
  rest = alone_more _ _ _ c.loop.invariant.rest c.let_go_late_one.ensures.rest;
}

pub returns-then-not-let_go_late_one-clause-gone : goal.returns-then-not-let_go_late_one-clause-gone
returns-then-not-let_go_late_one-clause-gone g c =
    lets_end IsLateWay _ _ _ c.loop.invariant.gone (c.let_go_late_one.ensures.none c.if-not-let_go_late_one.true)

pub returns-then-not-let_go_late_one-clause-rest : goal.returns-then-not-let_go_late_one-clause-rest
returns-then-not-let_go_late_one-clause-rest g c = alone_more _ _ _ c.loop.invariant.rest c.let_go_late_one.ensures.rest

pub returns-then-not-let_go_late_one-clause-quiet : goal.returns-then-not-let_go_late_one-clause-quiet
returns-then-not-let_go_late_one-clause-quiet g c = c.let_go_late_one.ensures.quiet c.if-not-let_go_late_one.true
