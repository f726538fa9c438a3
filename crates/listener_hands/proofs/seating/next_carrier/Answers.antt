use Rattle.std.proofs.Common.{◌≡◌, ℕ, IfSome, ap, subst, sym, ◌∙◌}
use Rattle.std.specs.Prelude.{slice_get}
use Rattle.listener_hands.specs.Opened.{IsNumberedBelow}
use Rattle.listener_hands.proofs.OpeningLemmas.{at_first, last_at}
use Rattle.listener_hands.proofs.seating.next_carrier.Goals as goal

pub returns-clause-theirs : goal.returns-clause-theirs
returns-clause-theirs g c =
    λ i carrier at. c.requires.theirs i carrier (ap (λ l. slice_get l i) c.pop.ensures.items ∙ at_first c.pop.new.self.items _ i carrier at)

pub returns-clause-numbered : goal.returns-clause-numbered
returns-clause-numbered g c =
    λ i carrier at. c.requires.numbered i carrier (ap (λ l. slice_get l i) c.pop.ensures.items ∙ at_first c.pop.new.self.items _ i carrier at)

pub returns-clause-own : goal.returns-clause-own
returns-clause-own g c =
    last_at (λ i carrier. carrier.seat.table_id ≡ c.args.perch.now.shared.now.table.shared.table_id) _ c.pop.new.self.items c.pop.result c.pop.ensures.items
    c.requires.theirs

pub returns-clause-last : goal.returns-clause-last
returns-clause-last g c =
    subst (λ n. IfSome c.pop.result (λ carrier. IsNumberedBelow c.args.count n carrier.seat.me)) (sym c.pop.new.self.ok.0)
    (last_at (λ i carrier. IsNumberedBelow c.args.count i carrier.seat.me) _ c.pop.new.self.items c.pop.result c.pop.ensures.items c.requires.numbered)
