use Rattle.access_log.proofs.TimeLemmas.{parts_are}
use Rattle.access_log.proofs.laws.times_are_those_of_dates.Goals as goal

pub returns : goal.returns
returns c = parts_are
