use Rattle.std.proofs.Common.{◌≡◌}
use Rattle.recycle_perch.specs.Resting.{IsFreeCarrier}
use Rattle.worker_threads.proofs.WorkingLemmas.{all_none, nothing_yet, took_one, worked}
use Rattle.worker_threads.proofs.worker.worker_loop.Goals as goal

pub loop-init : goal.loop-init
loop-init g c = record {
  looks = c.requires.looks;
  seat = c.requires.seat;
  worked = nothing_yet _ _;
  own = all_none (λ carrier. carrier.seat.table_id ≡ g.M.Room.table) c.args.back.items c.requires.none;
  free = all_none (λ carrier. IsFreeCarrier carrier.seat.me) c.args.back.items c.requires.none;
}

pub returns-in-End-clause-worked : goal.returns-in-End-clause-worked
returns-in-End-clause-worked g c = worked _ _ _ _ _ c.loop.invariant.worked c.in-End.ensures.taken

pub loop-preserved : goal.loop-preserved
loop-preserved g c = record {
  looks = c.serve_pair.ensures.looks;
  seat = c.in-Work.ensures.seat;
  worked = took_one _ _ _ _ _ _ _ c.loop.invariant.worked c.in-Work.ensures.taken c.serve_pair.ensures.served;
  own = c.serve_pair.ensures.all_own;
  free = c.serve_pair.ensures.all_free;
}
