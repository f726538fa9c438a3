-- What a run's history and its connections are, and how it ends.
-- Why it is so stands in docs/DECISIONS.md: 74, What is said of folded entries.
use Rattle.std.specs.Prelude.{◌≡◌, ◌+◌, length}
use Rattle.conn_machine.specs.Events.{count_events, is_accept}
use Rattle.conn_machine.specs.Runs.{Run, after, first_row, IsInPassOrderFrom}
use Rattle.conn_machine.specs.Made.{AreMade, AreOfPasses}
use Rattle.conn_machine.specs.Laws.{StaysSound}
use Rattle.conn_machine.specs.Passes.{EachHasItsOwn}
use Rattle.board.specs.Board.{SeenBoard, Agrees}
use Rattle.listener_round.specs.Commands.{TellsStop}
use Rattle.board_book.specs.Timely.{AreTimely}
use Rattle.listener_round.specs.declared.run_numbers.RunNumbers.{RunNumbers}
use Rattle.board_book.specs.ClosedDown.{IsClosedDown}

-- ## A run

-- the history that is kept is one of the machine, from the state before it, in the order of its passes behind what was folded; each
-- entry is one that its pass, one of so many, may make where it stands, and is made while it is time for it, and each stop is told by the
-- state; before the first entry each pass had a connection of its own, or none, and each one that somebody had was some pass's; each
-- state on its way is sound; and the connections agree with the history
pub record IsRunFrom (n : RunNumbers) (b : SeenBoard) : Type 0 where
  pub run : Run b.book.base b.book.history
  pub order : IsInPassOrderFrom b.book.folded b.book.history
  pub made : AreMade b.book.base b.book.folded b.book.history
  pub own : EachHasItsOwn b.book.base (first_row b.book.folded)
  pub few : AreOfPasses n.passes b.book.history
  pub timely : AreTimely b.book.base b.book.history
  pub state : after b.book.base b.book.history ≡ b.book.state
  pub stays_sound : StaysSound b.book.base b.book.history
  pub stop : TellsStop b.book
  pub agrees : Agrees b

-- it closed each connection: none is live, each child is gone, and as many connections ended as were taken, those that were folded
-- among both
pub record HasClosedAll (b : SeenBoard) : Type 0 where
  pub down : IsClosedDown b.book.state
  pub ended : b.book.folded.closed + length b.ended ≡ b.book.folded.accepted + count_events is_accept b.book.history
