use Rattle.std.proofs.Common.{refl, rules, ◌∙◌}
use Rattle.listener_parts.specs.Letting.{DrainsUntil, IsDrainedWay}
use Rattle.listener_parts.proofs.AloneLemmas.{alone_more, alone_same}
use Rattle.listener_parts.proofs.LettingLemmas.{drains_until, lets_end, lets_more, lets_none}
use Rattle.listener_parts.proofs.draining.drain_all.Goals as goal

pub loop-init : goal.loop-init
loop-init g c = record {
  own = refl;
  listener = c.requires.listener;
  drains = lets_none IsDrainedWay c.args.pass.now.seat.me.0 c.requires.none;
  credits = refl;
  rest = alone_same _;
}

pub drain_one-requires-clause-none : goal.drain_one-requires-clause-none
drain_one-requires-clause-none g c = c.loop.invariant.drains.did.row

pub loop-preserved : goal.loop-preserved
loop-preserved g c = record {
  own = c.drain_one.ensures.own ∙ c.loop.invariant.own;
  listener = c.drain_one.ensures.listener;
  drains = lets_more IsDrainedWay _ _ _ c.loop.invariant.drains (c.in_ok-drain_one.ensures.one c.if-not-branch.false);
  credits = c.drain_one.ensures.credits ∙ c.loop.invariant.credits;
  rest = alone_more _ _ _ c.loop.invariant.rest c.drain_one.ensures.rest;
}

pub returns-then-not-branch-clause-drains : goal.returns-then-not-branch-clause-drains
returns-then-not-branch-clause-drains g c =
    lets_end IsDrainedWay _ _ _ c.loop.invariant.drains (c.in_ok-drain_one.ensures.none c.if-not-branch.true)

pub returns-then-not-branch-clause-rest : goal.returns-then-not-branch-clause-rest
returns-then-not-branch-clause-rest g c = alone_more _ _ _ c.loop.invariant.rest c.drain_one.ensures.rest

pub returns-then-not-branch-clause-quiet : goal.returns-then-not-branch-clause-quiet
returns-then-not-branch-clause-quiet g c = c.in_ok-drain_one.ensures.quiet c.if-not-branch.true

pub returns-in_err-drain_one-clause-until : goal.returns-in_err-drain_one-clause-until
returns-in_err-drain_one-clause-until g c =
    let until : DrainsUntil c.in_err-drain_one.field-0.0 c.args.pass.now.seat.me.0 c.drain_one.new.pass.seat.me.0 =
    drains_until _ _ _ _ c.loop.invariant.drains c.in_err-drain_one.ensures.until in
    search (rules, until)

pub returns-in_err-drain_one-clause-rest : goal.returns-in_err-drain_one-clause-rest
returns-in_err-drain_one-clause-rest g c = alone_more _ _ _ c.loop.invariant.rest c.drain_one.ensures.rest
