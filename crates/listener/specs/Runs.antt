-- What is left of a run.
use Rattle.board.specs.Backed.{AllBacked}
use Rattle.board.specs.Board.{SeenBoard}
use Rattle.conn_machine.specs.declared.event.Entry.{Entry}
use Rattle.conn_state.specs.Answered.{SeenEnded}
use Rattle.listener_round.specs.FirstNumbers.{numbers_of, opened_by}
use Rattle.listener_round.specs.Generations.{Opening}
use Rattle.listener.specs.Listen.{HasClosedAll, IsRunFrom}
use Rattle.listener_round.specs.Folded.{HasFolded, all_entries}
use Rattle.listener_round.specs.Orders.{AreOrdered}
use Rattle.listener.specs.Served.{ServesByEditions, all_ended}
use Rattle.std.specs.Prelude.{◌++◌, List}

-- what is left of a run that opened so: its history, and what was folded before; it closed each connection that it took, and each child is
-- gone; of all its entries, each command was done as its edition says; each connection, folded ones too, was served by the edition of its
-- generation; and its link, whether it tells or not, backs each of its waits
pub record HasRun (o : Opening) (b : SeenBoard) : Type 0 where
  pub run : IsRunFrom (numbers_of o.config) b
  pub folded : HasFolded (numbers_of o.config) b.book
  pub closed : HasClosedAll b
  pub ordered : AreOrdered o 0 0 (opened_by (numbers_of o.config)) (all_entries (numbers_of o.config) b.book folded)
  pub served : ServesByEditions o (numbers_of o.config) b folded
  pub backed : AllBacked (all_entries (numbers_of o.config) b.book folded) (folded.ended ++ b.ended)

-- all entries of the run
abbrev pub entries_of_run : (o : Opening) (b : SeenBoard) → HasRun o b → List Entry
entries_of_run o b run = all_entries (numbers_of o.config) b.book run.folded

-- all connections of the run that ended
abbrev pub ended_of_run : (o : Opening) (b : SeenBoard) → HasRun o b → List SeenEnded
ended_of_run o b run = all_ended (numbers_of o.config) b run.folded
