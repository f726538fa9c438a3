use Rattle.conn_machine.proofs.LawLemmas.{taken-newer}
use Rattle.conn_machine.proofs.laws.replaced_generations_take_nothing.Goals as goal

pub returns : goal.returns
returns c = taken-newer c.pick_is_a_candidate.ensures.chosen
