use Rattle.std.proofs.Common.{◌≡◌, ℕ, Some}
use Rattle.std.specs.Prelude.{slice_get}
use Rattle.lock_examples.specs.Toy.{IsReadyPass}
use Rattle.lock_examples.proofs.player.players.Given as goal

-- the passes that are left are the lock's, and ready
abbrev pub invariant-loop : goal.invariant-loop
invariant-loop l =
    ((p : ℕ) (pass : _) → slice_get l.passes.items p ≡ Some pass → pass.seat.table_id ≡ l.shared.table.shared.table_id)
    × ((p : ℕ) (pass : _) → slice_get l.passes.items p ≡ Some pass → IsReadyPass pass.seat.me)
