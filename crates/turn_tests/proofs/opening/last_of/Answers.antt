use Rattle.std.proofs.Common.{◌≡◌, ◌≢◌, None, ap, ◌∙◌}
use Rattle.std.specs.Prelude.{slice_get}
use Rattle.board_lock.specs.Passes.{HasNoTurn}
use Rattle.recycle_perch.specs.Resting.{IsFreeCarrier}
use Rattle.board_turns.specs.Turns.{IsListener}
use Rattle.turn_tests.specs.Passes.{HasCredit}
use Rattle.turn_tests.proofs.OpeningLemmas.{at_first, carrier, last_has, listener, no_credit, no_row, no_turn}
use Rattle.turn_tests.proofs.opening.last_of.Goals as goal

pub returns-clause-own : goal.returns-clause-own
returns-clause-own c =
    λ p pass at. c.requires.own p pass (ap (λ l. slice_get l p) c.pop.ensures.items ∙ at_first c.pop.new.self.items _ p pass at)

pub returns-clause-fresh : goal.returns-clause-fresh
returns-clause-fresh c =
    λ p pass at. c.requires.fresh p pass (ap (λ l. slice_get l p) c.pop.ensures.items ∙ at_first c.pop.new.self.items _ p pass at)

pub returns-clause-last : goal.returns-clause-last
returns-clause-last c =
    last_has (λ pass. pass.seat.table_id ≡ c.args.shared.now.table.shared.table_id) _ c.pop.new.self.items c.pop.result c.pop.ensures.items c.requires.own

pub returns-clause-listener : goal.returns-clause-listener
returns-clause-listener c =
    last_has (λ pass. pass.seat.me.0.who.number ≡ 0 → IsListener pass.seat.me) _ c.pop.new.self.items c.pop.result c.pop.ensures.items
    (λ p pass at. listener pass.seat.me (c.requires.fresh p pass at))

pub returns-clause-free : goal.returns-clause-free
returns-clause-free c =
    last_has (λ pass. HasNoTurn pass.seat.me) _ c.pop.new.self.items c.pop.result c.pop.ensures.items
    (λ p pass at. no_turn pass.seat.me (c.requires.fresh p pass at))

pub returns-clause-none : goal.returns-clause-none
returns-clause-none c =
    last_has (λ pass. pass.seat.me.0.row ≡ None) _ c.pop.new.self.items c.pop.result c.pop.ensures.items
    (λ p pass at. no_row pass.seat.me (c.requires.fresh p pass at))

pub returns-clause-credit : goal.returns-clause-credit
returns-clause-credit c =
    last_has (λ pass. pass.seat.me.0.who.number ≡ 0 → HasCredit 0 pass.seat.me.0.credits) _ c.pop.new.self.items c.pop.result c.pop.ensures.items
    (λ p pass at. no_credit pass.seat.me (c.requires.fresh p pass at))

pub returns-clause-carrier : goal.returns-clause-carrier
returns-clause-carrier c =
    last_has (λ pass. pass.seat.me.0.who.number ≢ 0 → IsFreeCarrier pass.seat.me) _ c.pop.new.self.items c.pop.result c.pop.ensures.items
    (λ p pass at. carrier pass.seat.me (c.requires.fresh p pass at))
