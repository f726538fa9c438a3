-- What the parts that write a report answer.
use Rattle.board.specs.Board.{SeenBoard}
use Rattle.conn_machine.specs.declared.state.Going.{Going}
use Rattle.conn_machine.specs.declared.state.Going.TheVariants.{Halted, Ending}
use Rattle.mpm_base.specs.Count.{NeverFalls}
use Rattle.mpm_base.specs.Sink.{SinkSeen}
use Rattle.run_report.specs.Endings.{HasEndedGracefully}
use Rattle.run_report.specs.Report.{board_report}
use Rattle.run_report.specs.Written.{LeavesUnwritten, WritesText}
use Rattle.std.specs.Prelude.{◌≡◌, ◌⊎◌, ◌==◌, ℕ, Bool, true, false, ◌&&◌, if◌then◌else◌, List, ◌++◌, option_map}
use Rattle.conn_machine.specs.declared.event.Why.TheVariants as why

-- the server stopped for one of these, or ended
abbrev pub IsEnd : Going → Type 0
IsEnd going =
    (going ≡ Halted why.FrontEnded) ⊎ (going ≡ Halted why.Asked) ⊎ (going ≡ Halted why.FrontFailed) ⊎ (going ≡ Halted why.NoMemory)
    ⊎ HasEndedGracefully going

-- the exit status of a run that stopped so, or ended gracefully, unless its report is not written
abbrev pub IsExitStatusOf : Going → ℕ → Type 0
IsExitStatusOf (Ending until) status = status ≡ 0
IsExitStatusOf (Halted why.Overdue) status = status ≡ 0
IsExitStatusOf (Halted why.FrontEnded) status = status ≡ 0
IsExitStatusOf (Halted why.Asked) status = status ≡ 0
IsExitStatusOf (Halted why.FrontFailed) status = status ≡ 4
IsExitStatusOf (Halted why.NoMemory) status = status ≡ 6
IsExitStatusOf other status = ⊥

-- the exit statuses before the report
abbrev pub IsStoppedStatus : ℕ → Type 0
IsStoppedStatus s = (s ≡ 0) ⊎ (s ≡ 4) ⊎ (s ≡ 6)

-- what a report makes of an exit status: a failed write changes 0 alone, and want of memory each
abbrev pub ReportsAs : ℕ → ℕ → Type 0
ReportsAs status status' = (status' ≡ status) ⊎ ((status ≡ 0) × (status' ≡ 5)) ⊎ (status' ≡ 6)

-- what a write that failed makes of an exit status
abbrev pub status_of_writes : Bool → ℕ → ℕ
status_of_writes true status = status
status_of_writes false status = if status == 0 then 5 else status

-- all of the text was written, or not
abbrev pub WritesAll : SinkSeen → SinkSeen → List ℕ → Bool → Type 0
WritesAll old new text true = new.told ≡ option_map (λ written. written ++ text) old.told
WritesAll old new text false = LeavesUnwritten old new text

-- the text was not written whole; or it was, and the one before it was not
abbrev pub LacksBoth : SinkSeen → SinkSeen → List ℕ → Bool → Type 0
LacksBoth old new text written =
    LeavesUnwritten old new text ⊎ ((written ≡ false) × WritesAll old new text true)

-- what was written of a report by the exit status, behind warnings that were written or not
pub record EndsReport (sink sink' : SinkSeen) (text : List ℕ) (written : Bool) (status : ℕ) : Type 0 where
  pub faults : NeverFalls sink.faults sink'.faults
  pub well : status ≡ 0 → (written ≡ true) × (sink'.told ≡ option_map (λ before. before ++ text) sink.told)
  pub failed : status ≡ 5 → LacksBoth sink sink' text written
  pub writes : status ≡ 4 → WritesText sink sink' text

-- the report was written behind exit status 6, or memory lacked for it, and the output is as it was
abbrev pub LacksReport : SinkSeen → SinkSeen → List ℕ → ℕ → Type 0
LacksReport sink sink' text status = ((status ≡ 6) × WritesText sink sink' text) ⊎ (sink' ≡ sink)

-- the server stopped for want of memory, and the report was written; or memory lacked for that, and the output is as it was
abbrev pub LacksInRun : SinkSeen → SinkSeen → SeenBoard → Type 0
LacksInRun sink sink' b = ((b.book.state.going ≡ Halted why.NoMemory) × WritesText sink sink' (board_report b)) ⊎ (sink' ≡ sink)
