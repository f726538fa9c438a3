use Rattle.std.proofs.Common.{◌≡◌}
use Rattle.recycle_perch.specs.Looking.{AllAreOf}
use Rattle.turn_tests.proofs.carriers.admit_all.Given as goal

abbrev pub invariant-loop : goal.invariant-loop
invariant-loop g l =
    record {
      perched : l.perch.shared.now.table.shared.table_id ≡ g.M.Room.table;
      looks : AllAreOf l.perch.places l.looks.items;
    }
