use Rattle.std.proofs.Common.{ℕ, List, Option, Some, None, slice_set, ap, sym, ◌∙◌}
use Rattle.timeout_queues.proofs.SlotLemmas.{set_twice}
use Rattle.timeout_queues.proofs.slot_rings.SlotRings.file.Goals as goal

pub returns-in-Some : goal.returns-in-Some
returns-in-Some c =
    c.enter.ensures
    ∙ ap (λ (xs : List (Option ℕ)). slice_set xs c.args.slot (Some c.in-Some.ring)) c.leave.ensures
    ∙ set_twice c.args.self.now c.args.slot None (Some c.in-Some.ring)
    ∙ ap (λ (o : Option ℕ). slice_set c.args.self.now c.args.slot o) (sym c.in-Some.is)
