use Rattle.std.proofs.Common.{[], None, refl, sym, ◌∙◌, true≢false, arith}
use Rattle.listener_parts.proofs.DidLemmas.{did_no_more, did_nothing}
use Rattle.listener_parts.proofs.RoundLemmas.{idle_next, opened_still, rests_still}
use Rattle.listener_parts.proofs.rest.are_idle.Goals as goal

pub loop-child-init : goal.loop-child-init
loop-child-init g c = record {
  own = refl;
  listener = c.requires.listener;
  did = did_nothing c.args.pass.now.seat.me.0 None c.requires.none;
  credits = c.requires.credits;
  still = refl;
  idle = λ child below some. absurd (omega (arith, below));
}

pub are_idle_of-requires-clause-none : goal.are_idle_of-requires-clause-none
are_idle_of-requires-clause-none g c = c.loop-child.invariant.did.row

pub are_idle_of-requires-clause-credits : goal.are_idle_of-requires-clause-credits
are_idle_of-requires-clause-credits g c = c.loop-child.invariant.credits

pub are_idle_of-requires-clause-opened : goal.are_idle_of-requires-clause-opened
are_idle_of-requires-clause-opened g c = opened_still c.args.pass.now.seat.me.0 c.loop-child.pass.seat.me.0 c.loop-child.invariant.did.origin c.requires.opened

pub are_idle_of-requires-clause-rest : goal.are_idle_of-requires-clause-rest
are_idle_of-requires-clause-rest g c = rests_still c.args.pass.now.seat.me.0 c.loop-child.pass.seat.me.0 c.loop-child.invariant.did.origin c.loop-child.invariant.still c.requires.rest

pub loop-child-preserved : goal.loop-child-preserved
loop-child-preserved g c = record {
  own = c.are_idle_of.ensures.own ∙ c.loop-child.invariant.own;
  listener = c.are_idle_of.ensures.listener;
  did = did_no_more [] None None _ _ _ c.loop-child.invariant.did c.are_idle_of.ensures.did;
  credits = c.are_idle_of.ensures.credits;
  still = c.are_idle_of.ensures.still ∙ c.loop-child.invariant.still;
  idle =
      idle_next c.args.credits.now c.loop-child.child _ _ _ c.loop-child.invariant.did c.are_idle_of.ensures.did c.loop-child.invariant.idle
      (c.are_idle_of.ensures.idle c.if-not-are_idle_of.false);
}

pub returns-then-not-are_idle_of-clause-did : goal.returns-then-not-are_idle_of-clause-did
returns-then-not-are_idle_of-clause-did g c = did_no_more [] None None _ _ _ c.loop-child.invariant.did c.are_idle_of.ensures.did

pub returns-then-not-are_idle_of-clause-still : goal.returns-then-not-are_idle_of-clause-still
returns-then-not-are_idle_of-clause-still g c = c.are_idle_of.ensures.still ∙ c.loop-child.invariant.still

pub returns-then-not-are_idle_of-clause-idle : goal.returns-then-not-are_idle_of-clause-idle
returns-then-not-are_idle_of-clause-idle g c z = absurd (true≢false (sym z))

pub returns-clause-idle : goal.returns-clause-idle
returns-clause-idle g c _ child below some = c.loop-child.invariant.idle child (omega (arith, below, c.loop-child-test.false)) some
