use Rattle.admission.proofs.PickLemmas.{picked_if_some, none_iff_no_candidates}
use Rattle.admission.proofs.pick_is_a_candidate.Goals as goal

pub returns-clause-chosen : goal.returns-clause-chosen
returns-clause-chosen c = picked_if_some

pub returns-clause-none : goal.returns-clause-none
returns-clause-none c = none_iff_no_candidates
