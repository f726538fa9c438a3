use Rattle.conn_machine.proofs.LawLemmas.{taken-chosen}
use Rattle.conn_machine.proofs.PickLemmas.{pick_is_chosen}
use Rattle.conn_machine.proofs.laws.connections_go_to_the_chosen_child.Goals as goal

pub returns : goal.returns
returns c =
    record {
      picked = pick_is_chosen c.pick_is_a_candidate.ensures.chosen;
      taken = taken-chosen c.pick_is_a_candidate.ensures.chosen;
    }
