use Rattle.std.proofs.Common.{◌≡◌, ap, ◌∙◌}
use Rattle.std.specs.Prelude.{slice_get}
use Rattle.board_lock.specs.Passes.{HasNoTurn}
use Rattle.board_tests.proofs.BoardLemmas.{at_first, last_has}
use Rattle.board_tests.proofs.passes.last_of.Goals as goal

pub returns-clause-free : goal.returns-clause-free
returns-clause-free c =
    λ p pass at. c.requires.free p pass (ap (λ l. slice_get l p) c.pop.ensures.items ∙ at_first c.pop.new.self.items _ p pass at)

pub returns-clause-last : goal.returns-clause-last
returns-clause-last c =
    last_has (λ pass. pass.seat.table_id ≡ c.args.shared.now.table.shared.table_id) _ c.pop.new.self.items c.pop.result c.pop.ensures.items c.requires.own

pub returns-clause-last_free : goal.returns-clause-last_free
returns-clause-last_free c =
    last_has (λ pass. HasNoTurn pass.seat.me) _ c.pop.new.self.items c.pop.result c.pop.ensures.items c.requires.free
