-- What the part that runs a server by its editions leaves.
use Rattle.board.specs.Backed.{AllBacked}
use Rattle.board.specs.Board.{SeenBoard}
use Rattle.mpm_base.specs.Front.{FrontSeen}
use Rattle.mpm_base.specs.Store.{StoreSeen}
use Rattle.listener_round.specs.Commands.{GivesLines}
use Rattle.listener.specs.Counted.{CountsRun, GivesNoEnding}
use Rattle.listener_round.specs.FirstNumbers.{numbers_of, opened_by}
use Rattle.listener_round.specs.Generations.{Opening}
use Rattle.listener_round.specs.Heard.{KeepsLines, open_lines}
use Rattle.listener.specs.Outside.{KeepsOutside}
use Rattle.listener.specs.Runs.{HasRun, ended_of_run, entries_of_run}
use Rattle.listener_round.specs.Folded.{HasFolded, all_entries}
use Rattle.listener_round.specs.Stores.{KeepsStore}
use Rattle.std.specs.Prelude.{ℕ, ◌++◌, List, Option}
use Rattle.listener_round.specs.declared.run_numbers.RunNumbers.{RunNumbers}

-- what is left is of a run that opened so, over the front, the clock and the store that it left so: it kept to the front and the clock, the
-- front counted what the run did, and gave a line for each command; each command line that was read was answered; and the store went on by
-- the orders
pub record HasRunBy (o : Opening) (store : StoreSeen) (f : FrontSeen) (calls : Option (List (ℕ × ℕ))) (b : SeenBoard) : Type 0 where
  pub has_run : HasRun o b
  pub outside :
      KeepsOutside (numbers_of o.config) o.front f calls b.book.state (entries_of_run o b has_run) (ended_of_run o b has_run)
  pub counted : CountsRun b.book o.front.counts f.counts
  pub unended : GivesNoEnding b.book.state.going (entries_of_run o b has_run) o.front.counts f.counts
  pub given : GivesLines (entries_of_run o b has_run) o.front f
  pub lines :
      KeepsLines o (opened_by (numbers_of o.config)) outside.pace.first outside.pace.shares o.front f b.book.state.going (entries_of_run o b has_run)
  pub store_is : KeepsStore b.book.state.going (entries_of_run o b has_run) o.store store

-- what the output has of the lines that ask for the state, in such a run
abbrev pub open_lines_of :
    {o : Opening} {store : StoreSeen} {f : FrontSeen} {calls : Option (List (ℕ × ℕ))} {b : SeenBoard} → HasRunBy o store f calls b → List ℕ
open_lines_of {o} {b = b} run = open_lines (opened_by (numbers_of o.config)) (entries_of_run o b run.has_run) run.lines.heard

-- of each connection that ended in a run by these numbers, folded before or not, the link backs its waits
abbrev pub BacksWaits : RunNumbers → SeenBoard → Type 0
BacksWaits n b = (before : HasFolded n b.book) → AllBacked (all_entries n b.book before) (before.ended ++ b.ended)
