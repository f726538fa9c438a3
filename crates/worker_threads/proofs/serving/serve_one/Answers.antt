use Rattle.std.proofs.Common.{ap, sym}
use Rattle.table_rule.specs.declared.view.Hand.{Hand}
use Rattle.board_turns.proofs.PairingLemmas.{released}
use Rattle.worker_threads.proofs.ServingLemmas.{has_permit_as}
use Rattle.worker_threads.proofs.serving.serve_one.Goals as goal

pub release-requires-clause-permit : goal.release-requires-clause-permit
release-requires-clause-permit g c = ap (λ (h : Hand). h.permit) (has_permit_as _ _ _ (sym c.child-child.ensures) c.serve.ensures.permit).hand

pub release-requires-clause-row : goal.release-requires-clause-row
release-requires-clause-row g c = c.serve.ensures.permit.row

pub give-laid-requires-clause-free : goal.give-laid-requires-clause-free
give-laid-requires-clause-free g c =
    released _ c.release.new.carrier.seat.me _ (has_permit_as _ _ _ (sym c.child-child.ensures) c.serve.ensures.permit) c.release.ensures.released c.release.ensures.hand c.serve.ensures.hand
