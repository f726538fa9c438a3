use Rattle.std.proofs.Common.{◌≡◌, ◌+◌, ◌≤◌, ℕ, [], Some, vec_len}
use Rattle.std.specs.Prelude.{slice_get, vec_capacity}
use Rattle.table_rule.specs.Tie.{origin_of}
use Rattle.table_rule.specs.Views.{first_view, free_view}
use Rattle.board_lock.proofs.shared.Shared.fill.Given as goal

-- the passes below the number are made
abbrev pub invariant-loop-number : goal.invariant-loop-number
invariant-loop-number g l =
    (l.first.seat.table_id ≡ l.self.table.shared.table_id)
    × (l.first.seat.me ≡ (first_view (origin_of (g.K.Kept.ledger l.self.table.shared.key.value)) l.number, []))
    × (vec_len l.all + 1 ≡ l.number) × (l.passes ≤ vec_capacity l.all)
    × ((g.K.Kept.ledger l.self.table.shared.key.value).passes ≡ l.passes)
    × ((p : ℕ) (pass : _) → slice_get l.all.items p ≡ Some pass → (pass.seat.table_id ≡ l.self.table.shared.table_id)
    × (pass.seat.me ≡ (free_view (origin_of (g.K.Kept.ledger l.self.table.shared.key.value)) (p + 1) [], [])))
