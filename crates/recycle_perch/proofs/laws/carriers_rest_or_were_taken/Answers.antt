use Rattle.recycle_perch.proofs.CarrierLemmas.{rest_or_taken}
use Rattle.recycle_perch.proofs.laws.carriers_rest_or_were_taken.Goals as goal

pub returns : goal.returns
returns c = rest_or_taken
