use Rattle.std.proofs.Common.{◌≡◌, ◌≤◌, flat_map, length, take}
use Rattle.std.specs.List.{enumerate_from}
use Rattle.conn_machine.specs.Shown.{child_letters}
use Rattle.conn_machine.proofs.state.State.letters.Given as goal

-- the letters of the children so far
abbrev pub invariant-loop-number : goal.invariant-loop-number
invariant-loop-number l =
    record {
      made : l.letters ≡ flat_map (child_letters l.self) (enumerate_from 0 (take l.number l.child-items));
      within : length l.child-items ≤ 32;
    }
