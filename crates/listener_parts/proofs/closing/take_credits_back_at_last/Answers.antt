use Rattle.std.proofs.Common.{[], None, refl, ◌∙◌}
use Rattle.listener_parts.proofs.DidLemmas.{did_no_more, did_nothing}
use Rattle.listener_parts.proofs.closing.take_credits_back_at_last.Goals as goal

pub loop-init : goal.loop-init
loop-init g c = record {
  own = refl;
  listener = c.requires.listener;
  did = did_nothing c.args.pass.now.seat.me.0 None c.requires.none;
  seen = refl;
  credits = c.requires.credits;
}

pub take_all_credits_back-requires-clause-none : goal.take_all_credits_back-requires-clause-none
take_all_credits_back-requires-clause-none g c = c.loop.invariant.did.row

pub take_all_credits_back-requires-clause-credits : goal.take_all_credits_back-requires-clause-credits
take_all_credits_back-requires-clause-credits g c = c.loop.invariant.credits

pub loop-preserved : goal.loop-preserved
loop-preserved g c = record {
  own = c.take_all_credits_back.ensures.own ∙ c.loop.invariant.own;
  listener = c.take_all_credits_back.ensures.listener;
  did = did_no_more [] None None _ _ _ c.loop.invariant.did c.take_all_credits_back.ensures.did;
  seen = c.take_all_credits_back.ensures.seen ∙ c.loop.invariant.seen;
  credits = c.take_all_credits_back.ensures.credits;
}

pub returns-then-take_all_credits_back-clause-did : goal.returns-then-take_all_credits_back-clause-did
returns-then-take_all_credits_back-clause-did g c = did_no_more [] None None _ _ _ c.loop.invariant.did c.take_all_credits_back.ensures.did

pub returns-then-take_all_credits_back-clause-seen : goal.returns-then-take_all_credits_back-clause-seen
returns-then-take_all_credits_back-clause-seen g c = c.take_all_credits_back.ensures.seen ∙ c.loop.invariant.seen

pub returns-then-take_all_credits_back-clause-taken_back : goal.returns-then-take_all_credits_back-clause-taken_back
returns-then-take_all_credits_back-clause-taken_back g c = c.take_all_credits_back.ensures.none c.if-take_all_credits_back.true
