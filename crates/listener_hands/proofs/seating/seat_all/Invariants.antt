use Rattle.std.proofs.Common.{◌≡◌, ℕ, ◌+◌, ◌≤◌, Some, vec_len}
use Rattle.std.specs.Prelude.{slice_get, vec_capacity}
use Rattle.recycle_perch.specs.Looking.{AllAreOf}
use Rattle.listener_hands.specs.Opened.{IsNumberedBelow}
use Rattle.listener_hands.proofs.seating.seat_all.Given as goal

-- the places that were made and the carriers that are left are all of them
abbrev pub invariant-loop-carrier : goal.invariant-loop-carrier
invariant-loop-carrier g l =
    record {
      own : l.perch.shared.now.table.shared.table_id ≡ l.initial.perch.shared.now.table.shared.table_id;
      theirs : (i : ℕ) (c : _) → slice_get l.left.items i ≡ Some c → c.seat.table_id ≡ l.perch.shared.now.table.shared.table_id;
      numbered : (i : ℕ) (c : _) → slice_get l.left.items i ≡ Some c → IsNumberedBelow l.count i c.seat.me;
      all : vec_len l.perch.places + vec_len l.left ≡ l.count;
      room : vec_capacity l.perch.places ≡ l.count;
      looks : AllAreOf l.perch.places l.looks.items;
      many : vec_len l.looks ≡ vec_len l.initial.looks;
      some : 1 ≤ vec_len l.looks;
    }

abbrev pub decreases-loop-carrier : goal.decreases-loop-carrier
decreases-loop-carrier g l = vec_len l.left
