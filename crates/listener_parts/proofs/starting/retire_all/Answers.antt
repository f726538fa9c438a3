use Rattle.std.proofs.Common.{None, refl, ◌∙◌}
use Rattle.listener_parts.proofs.AloneLemmas.{stands_more, stands_same}
use Rattle.listener_parts.proofs.DidLemmas.{did_nothing}
use Rattle.listener_parts.proofs.RoundLemmas.{retires_join, retires_none}
use Rattle.listener_parts.proofs.starting.retire_all.Goals as goal

pub loop-init : goal.loop-init
loop-init g c = record {
  own = refl;
  listener = c.requires.listener;
  retires = retires_none _ (did_nothing c.args.pass.now.seat.me.0 None c.requires.none);
  rest = stands_same _;
  credits = c.requires.credits;
}

pub retire_one-requires-clause-none : goal.retire_one-requires-clause-none
retire_one-requires-clause-none g c = c.loop.invariant.retires.did.row

pub retire_one-requires-clause-credits : goal.retire_one-requires-clause-credits
retire_one-requires-clause-credits g c = c.loop.invariant.credits

pub loop-preserved : goal.loop-preserved
loop-preserved g c = record {
  own = c.retire_one.ensures.own ∙ c.loop.invariant.own;
  listener = c.retire_one.ensures.listener;
  retires = retires_join _ _ _ c.loop.invariant.retires c.retire_one.ensures.retires;
  rest = stands_more _ _ _ c.loop.invariant.rest c.retire_one.ensures.rest;
  credits = c.retire_one.ensures.credits;
}

pub returns-then-not-retire_one-clause-retires : goal.returns-then-not-retire_one-clause-retires
returns-then-not-retire_one-clause-retires g c = retires_join _ _ _ c.loop.invariant.retires c.retire_one.ensures.retires

pub returns-then-not-retire_one-clause-rest : goal.returns-then-not-retire_one-clause-rest
returns-then-not-retire_one-clause-rest g c = stands_more _ _ _ c.loop.invariant.rest c.retire_one.ensures.rest
