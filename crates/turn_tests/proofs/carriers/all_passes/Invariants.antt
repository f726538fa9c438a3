use Rattle.std.proofs.Common.{◌≡◌, ℕ, Some}
use Rattle.std.specs.Prelude.{slice_get}
use Rattle.turn_tests.specs.Passes.{IsFresh}
use Rattle.turn_tests.proofs.carriers.all_passes.Given as goal

-- the passes that are left are the lock's, and new
abbrev pub invariant-loop : goal.invariant-loop
invariant-loop g l =
    ((p : ℕ) (pass : _) → slice_get l.passes.items p ≡ Some pass → pass.seat.table_id ≡ l.shared.table.shared.table_id)
    × ((p : ℕ) (pass : _) → slice_get l.passes.items p ≡ Some pass → IsFresh pass.seat.me)
