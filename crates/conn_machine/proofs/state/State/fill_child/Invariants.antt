use Rattle.std.proofs.Common.{◌≡◌, ◌+◌, ◌++◌, map}
use Rattle.std.specs.List.{range_with_len}
use Rattle.arrayvec.specs.ArrayVec.{array_vec_len}
use Rattle.conn_machine.specs.Shown.{letter_in}
use Rattle.conn_machine.proofs.state.State.fill_child.Given as goal

-- the letters of the cells so far stand behind the others
abbrev pub invariant-loop-cell : goal.invariant-loop-cell
invariant-loop-cell l =
    record {
      made : l.letters.items ≡ l.fn.letters.items ++ map (letter_in l.child.phase l.self l.number) (range_with_len 0 l.cell);
      len : array_vec_len l.letters ≡ array_vec_len l.fn.letters + l.cell;
    }
