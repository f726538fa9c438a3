use Rattle.std.proofs.Common.{◌≡◌, ◌*◌, ◌≤◌, flat_map, length, take}
use Rattle.std.specs.List.{enumerate_from}
use Rattle.arrayvec.specs.ArrayVec.{array_vec_len}
use Rattle.conn_machine.specs.Shown.{child_letters}
use Rattle.conn_machine.proofs.state.State.all_letters.Given as goal

-- the letters of the children so far, at most 64 of each
abbrev pub invariant-loop-number : goal.invariant-loop-number
invariant-loop-number l =
    record {
      made : l.letters.items ≡ flat_map (child_letters l.self) (enumerate_from 0 (take l.number l.child-items));
      few : array_vec_len l.letters ≤ 64 * l.number;
      within : length l.child-items ≤ 32;
      are : l.child-items ≡ l.self.children;
    }
