use Rattle.std.proofs.Common.{◌≡◌, arith}
use Rattle.lock_examples.specs.Toy.{IsReadyPass}
use Rattle.lock_examples.proofs.ToyLemmas.{first_has, rest_has}
use Rattle.lock_examples.proofs.opening.first_pass.Goals as goal

pub returns-clause-own : goal.returns-clause-own
returns-clause-own g c =
    rest_has (λ pass. pass.seat.table_id ≡ c.args.shared.now.table.shared.table_id) _ _ c.remove.ensures.items c.requires.own

pub returns-clause-ready : goal.returns-clause-ready
returns-clause-ready g c = rest_has (λ pass. IsReadyPass pass.seat.me) _ _ c.remove.ensures.items c.requires.ready

pub returns-clause-first : goal.returns-clause-first
returns-clause-first g c =
    first_has (λ pass. pass.seat.table_id ≡ c.args.shared.now.table.shared.table_id) _ _ (omega arith) c.remove.ensures.value c.requires.own

pub returns-clause-first_ready : goal.returns-clause-first_ready
returns-clause-first_ready g c =
    first_has (λ pass. IsReadyPass pass.seat.me) _ _ (omega arith) c.remove.ensures.value c.requires.ready
