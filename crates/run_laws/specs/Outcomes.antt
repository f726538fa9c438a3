-- A call of `run` as it ended, and what the clauses of `run` say of each.
use Rattle.board.specs.Board.{SeenBoard}
use Rattle.mpm_base.specs.Front.{FrontSeen}
use Rattle.mpm_run.specs.ExitStatuses.{Causes, LeavesAll}
use Rattle.run_opening.specs.Calls.{Call}
use Rattle.script_run.specs.declared.scripted.Scripted.{Scripted}
use Rattle.std.specs.Prelude.{ℕ, List, Option}

-- a call of `run`: its words, its store and its output; what is seen of the front that it was given, and what its clock tells, before it and
-- after it; its exit status; and what is left of the run of a script, or of a server, where one opened
pub record SeenOutcome : Type 0 where
  pub call : Call
  pub front : FrontSeen
  pub front' : FrontSeen
  pub clock : Option (List (ℕ × ℕ))
  pub clock' : Option (List (ℕ × ℕ))
  pub status : ℕ
  pub scripted : Option Scripted
  pub board : Option SeenBoard

-- what `run` says of it, in its clause `ends`
pub record IsOutcome (o : SeenOutcome) : Type 0 where
  pub leaves : LeavesAll o.call o.front o.front' o.clock o.clock' o.status o.scripted o.board
  pub causes : Causes o.call o.front o.front' o.status o.scripted o.board
