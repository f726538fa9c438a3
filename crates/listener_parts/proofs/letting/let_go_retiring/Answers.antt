use Rattle.std.proofs.Common.{refl, sym, ◌∙◌, true≢false}
use Rattle.listener_parts.specs.Letting.{IsRetiringWay}
use Rattle.listener_parts.proofs.AloneLemmas.{alone_more, alone_same}
use Rattle.listener_parts.proofs.LettingLemmas.{lets_end, lets_more, lets_none}
use Rattle.listener_parts.proofs.letting.let_go_retiring.Goals as goal

pub loop-init : goal.loop-init
loop-init g c = record {
  own = refl;
  listener = c.requires.listener;
  gone = lets_none IsRetiringWay c.args.pass.now.seat.me.0 c.requires.none;
  credits = refl;
  rest = alone_same _;
}

pub let_go_retiring_one-requires-clause-none : goal.let_go_retiring_one-requires-clause-none
let_go_retiring_one-requires-clause-none g c = c.loop.invariant.gone.did.row

pub loop-preserved : goal.loop-preserved
loop-preserved g c = record {
  own = c.let_go_retiring_one.ensures.own ∙ c.loop.invariant.own;
  listener = c.let_go_retiring_one.ensures.listener;
  gone = lets_more IsRetiringWay _ _ _ c.loop.invariant.gone (c.let_go_retiring_one.ensures.one c.if-not-let_go_retiring_one.false);
  credits = c.let_go_retiring_one.ensures.credits ∙ c.loop.invariant.credits;
  rest = alone_more _ _ _ c.loop.invariant.rest c.let_go_retiring_one.ensures.rest;
}

pub returns-then-not-let_go_retiring_one-clause-gone : goal.returns-then-not-let_go_retiring_one-clause-gone
returns-then-not-let_go_retiring_one-clause-gone g c =
    lets_end IsRetiringWay _ _ _ c.loop.invariant.gone (c.let_go_retiring_one.ensures.none c.if-not-let_go_retiring_one.true)

pub returns-then-not-let_go_retiring_one-clause-rest : goal.returns-then-not-let_go_retiring_one-clause-rest
returns-then-not-let_go_retiring_one-clause-rest g c = alone_more _ _ _ c.loop.invariant.rest c.let_go_retiring_one.ensures.rest

pub returns-then-not-let_go_retiring_one-clause-quiet : goal.returns-then-not-let_go_retiring_one-clause-quiet
returns-then-not-let_go_retiring_one-clause-quiet g c all = c.let_go_retiring_one.ensures.quiet c.if-not-let_go_retiring_one.true

pub returns-then-not-all_signalled-clause-gone : goal.returns-then-not-all_signalled-clause-gone
returns-then-not-all_signalled-clause-gone g c = lets_none IsRetiringWay c.args.pass.now.seat.me.0 c.requires.none

pub returns-then-not-all_signalled-clause-rest : goal.returns-then-not-all_signalled-clause-rest
returns-then-not-all_signalled-clause-rest g c = alone_same _

pub returns-then-not-all_signalled-clause-quiet : goal.returns-then-not-all_signalled-clause-quiet
returns-then-not-all_signalled-clause-quiet g c all = absurd (true≢false (sym all ∙ c.if-not-all_signalled.true))
