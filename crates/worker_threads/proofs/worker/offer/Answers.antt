use Rattle.std.proofs.Common.{◌≡◌, inl, inr}
use Rattle.recycle_perch.specs.Resting.{IsFreeCarrier}
use Rattle.worker_threads.proofs.WorkingLemmas.{all_left, offered_none, offered_one}
use Rattle.worker_threads.proofs.worker.offer.Goals as goal

pub loop-init : goal.loop-init
loop-init g c = record {
  looks = c.requires.looks;
  offers = offered_none _;
  own = c.requires.all_own;
  free = c.requires.all_free;
}

pub returns-in-Err-clause-offers : goal.returns-in-Err-clause-offers
returns-in-Err-clause-offers g c = offered_one _ _ _ _ c.loop.invariant.offers (inr c.in-Err.ensures.steps)

pub loop-preserved : goal.loop-preserved
loop-preserved g c = record {
  looks = c.give.ensures.looks;
  offers = offered_one _ _ _ _ c.loop.invariant.offers (inl c.in_default-give.ensures.steps);
  own = all_left (λ carrier. carrier.seat.table_id ≡ g.M.Room.table) _ c.pop.new.self.items _ c.pop.ensures.rest c.loop.invariant.own;
  free = all_left (λ carrier. IsFreeCarrier carrier.seat.me) _ c.pop.new.self.items _ c.pop.ensures.rest c.loop.invariant.free;
}
