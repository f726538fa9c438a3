use Rattle.listener_parts.proofs.RoundLemmas.{none_given}
use Rattle.listener_parts.proofs.credits.Credits.none.Goals as goal

pub returns-clause-none : goal.returns-clause-none
returns-clause-none c child = none_given 32 child
