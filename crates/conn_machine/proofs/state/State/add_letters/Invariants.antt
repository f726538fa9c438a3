use Rattle.std.proofs.Common.{◌≡◌, ◌++◌, map}
use Rattle.std.specs.List.{range_with_len}
use Rattle.conn_machine.specs.Shown.{letter_in}
use Rattle.conn_machine.proofs.state.State.add_letters.Given as goal

-- the letters of the cells so far stand behind the others
abbrev pub invariant-loop-cell : goal.invariant-loop-cell
invariant-loop-cell l = l.letters ≡ l.fn.letters ++ map (letter_in l.child.phase l.self l.number) (range_with_len 0 l.cell)
