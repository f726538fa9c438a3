-- What the calls of a table rest on.
use Rattle.conn_machine.specs.BetweenTurns.{OthersLeaveTheRestToTheListener}
use Rattle.conn_machine.specs.Frames.{OwnEventsTellTheFrame}
use Rattle.conn_machine.specs.HistoryLaws.{MadeHistoriesAreRuns}
use Rattle.conn_machine.specs.MachineLaws.{EventsKeepStatesSound}
use Rattle.board.specs.BoardLaws.{EndedConnectionsJoin}
use Rattle.board.specs.Editions.{GenerationsKeepTheirEditions}
use Rattle.board_turns.specs.Rests.{TurnsRestOn}

-- what the calls of a table rest on
pub record TableRestsOn : Type 0 where
  pub turns : TurnsRestOn
  pub frame : OwnEventsTellTheFrame
  pub others : OthersLeaveTheRestToTheListener
  pub ends : EndedConnectionsJoin
  pub editions : GenerationsKeepTheirEditions
  pub sound : EventsKeepStatesSound
  pub runs : MadeHistoriesAreRuns
