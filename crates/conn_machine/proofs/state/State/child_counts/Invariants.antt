use Rattle.std.proofs.Common.{◌≡◌, ◌≤◌, length, map, take}
use Rattle.std.specs.List.{enumerate_from}
use Rattle.arrayvec.specs.ArrayVec.{array_vec_len}
use Rattle.conn_machine.specs.States.{child_count}
use Rattle.conn_machine.proofs.state.State.child_counts.Given as goal

-- the children so far are counted
abbrev pub invariant-loop-number : goal.invariant-loop-number
invariant-loop-number l =
    record {
      counted : l.counts.items ≡ map (child_count l.self) (enumerate_from 0 (take l.number l.child-items));
      length_is : array_vec_len l.counts ≡ l.number;
      within : length l.child-items ≤ 32;
    }
