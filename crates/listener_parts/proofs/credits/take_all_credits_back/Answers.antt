use Rattle.std.proofs.Common.{[], None, refl, ◌∙◌, true≢false, sym, arith}
use Rattle.listener_parts.proofs.DidLemmas.{did_no_more, did_nothing}
use Rattle.listener_parts.proofs.RoundLemmas.{none_below, none_left, none_more}
use Rattle.listener_parts.proofs.credits.take_all_credits_back.Goals as goal

pub loop-child-init : goal.loop-child-init
loop-child-init g c = record {
  own = refl;
  listener = c.requires.listener;
  did = did_nothing c.args.pass.now.seat.me.0 None c.requires.none;
  seen = refl;
  credits = c.requires.credits;
  none = none_below c.args.credits.now;
}

pub take_credit_back-requires-clause-none : goal.take_credit_back-requires-clause-none
take_credit_back-requires-clause-none g c = c.loop-child.invariant.did.row

pub take_credit_back-requires-clause-credits : goal.take_credit_back-requires-clause-credits
take_credit_back-requires-clause-credits g c = c.loop-child.invariant.credits

pub loop-child-preserved : goal.loop-child-preserved
loop-child-preserved g c = record {
  own = c.take_credit_back.ensures.own ∙ c.loop-child.invariant.own;
  listener = c.take_credit_back.ensures.listener;
  did = did_no_more [] None None _ _ _ c.loop-child.invariant.did c.take_credit_back.ensures.did;
  seen = c.take_credit_back.ensures.seen ∙ c.loop-child.invariant.seen;
  credits = c.take_credit_back.ensures.credits;
  none =
      none_more c.loop-child.credits c.take_credit_back.new.credits c.loop-child.child (c.take_credit_back.ensures.back c.if-not-take_credit_back.false)
      c.loop-child.invariant.none;
}

pub returns-then-not-take_credit_back-clause-did : goal.returns-then-not-take_credit_back-clause-did
returns-then-not-take_credit_back-clause-did g c = did_no_more [] None None _ _ _ c.loop-child.invariant.did c.take_credit_back.ensures.did

pub returns-then-not-take_credit_back-clause-seen : goal.returns-then-not-take_credit_back-clause-seen
returns-then-not-take_credit_back-clause-seen g c = c.take_credit_back.ensures.seen ∙ c.loop-child.invariant.seen

pub returns-then-not-take_credit_back-clause-none : goal.returns-then-not-take_credit_back-clause-none
returns-then-not-take_credit_back-clause-none g c z = absurd (true≢false (sym z))

pub returns-clause-none : goal.returns-clause-none
returns-clause-none g c _ =
    none_left c.loop-child.credits c.loop-child.child c.loop-child.invariant.none c.loop-child.invariant.credits.full (omega (arith, c.loop-child-test.false))
