use Rattle.std.proofs.Common.{◌≡◌, ℕ, Some}
use Rattle.std.specs.Prelude.{slice_get}
use Rattle.recycle_perch.specs.Looking.{AllAreOf}
use Rattle.lock_examples.specs.Toy.{IsReadyPass}
use Rattle.lock_tests.proofs.resters.admit_first.Given as goal

-- the perch stays that of its lock, the looks are at it, and the passes that are left are the lock's, and ready
abbrev pub invariant-loop : goal.invariant-loop
invariant-loop g l =
    (l.perch.shared.now.table.shared.table_id ≡ l.initial.perch.shared.now.table.shared.table_id)
    × AllAreOf l.perch.places l.all.items
    × ((p : ℕ) (pass : _) → slice_get l.passes.items p ≡ Some pass
    → pass.seat.table_id ≡ l.initial.perch.shared.now.table.shared.table_id)
    × ((p : ℕ) (pass : _) → slice_get l.passes.items p ≡ Some pass → IsReadyPass pass.seat.me)
