use Rattle.std.proofs.Common.{[], None, refl, ◌∙◌}
use Rattle.listener_parts.proofs.AloneLemmas.{alone_more, alone_same}
use Rattle.listener_parts.proofs.DidLemmas.{did_no_more, did_nothing}
use Rattle.listener_parts.proofs.credits.credit_all.Goals as goal

pub loop-child-init : goal.loop-child-init
loop-child-init g c = record {
  own = refl;
  listener = c.requires.listener;
  did = did_nothing c.args.pass.now.seat.me.0 None c.requires.none;
  rest = alone_same _;
  credits = c.requires.credits;
}

pub credit_one-requires-clause-none : goal.credit_one-requires-clause-none
credit_one-requires-clause-none g c = c.loop-child.invariant.did.row

pub credit_one-requires-clause-credits : goal.credit_one-requires-clause-credits
credit_one-requires-clause-credits g c = c.loop-child.invariant.credits

pub loop-child-preserved : goal.loop-child-preserved
loop-child-preserved g c = record {
  own = c.credit_one.ensures.own ∙ c.loop-child.invariant.own;
  listener = c.credit_one.ensures.listener;
  did = did_no_more [] None None _ _ _ c.loop-child.invariant.did c.credit_one.ensures.did;
  rest = alone_more _ _ _ c.loop-child.invariant.rest c.credit_one.ensures.rest;
  credits = c.credit_one.ensures.credits;
}

pub returns-clause-did : goal.returns-clause-did
returns-clause-did g c = c.loop-child.invariant.did

pub returns-clause-rest : goal.returns-clause-rest
returns-clause-rest g c = c.loop-child.invariant.rest

pub returns-clause-credits : goal.returns-clause-credits
returns-clause-credits g c = c.loop-child.invariant.credits
