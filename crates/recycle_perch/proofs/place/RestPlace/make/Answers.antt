use Rattle.std.proofs.Common.{arith}
use Rattle.recycle_perch.proofs.StepLemmas.{begins}
use Rattle.recycle_perch.proofs.place.RestPlace.make.Goals as goal

pub new-perch-requires : goal.new-perch-requires
new-perch-requires g c = (omega arith, begins)
