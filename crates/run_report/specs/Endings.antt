-- How a run ends: why its server stopped, with which exit status, and what was written of its report and of what stands before that: the
-- warnings of its configuration, and a line for each command line that asks for the state.
use Rattle.board.specs.Board.{SeenBoard}
use Rattle.conn_machine.specs.declared.state.Going.{Going}
use Rattle.conn_machine.specs.declared.state.Going.TheVariants.{Ending, Halted}
use Rattle.mpm_base.specs.Sink.{SinkSeen}
use Rattle.run_report.specs.Report.{board_report}
use Rattle.run_report.specs.Written.{LeavesUnwritten, WritesText}
use Rattle.std.specs.Prelude.{◌≡◌, ◌⊎◌, ℕ, Option, List, ◌++◌, option_map}
use Rattle.conn_machine.specs.declared.event.Why.TheVariants as why

-- the server was asked to end: it ends still, as it has to when all is gone, or its time was over
abbrev pub HasEndedGracefully : Going → Type 0
HasEndedGracefully going = ((until : Option ℕ) × (going ≡ Ending until)) ⊎ (going ≡ Halted why.Overdue)

-- what a run writes: these texts, and then the report of the board
abbrev pub run_text : List ℕ → SeenBoard → List ℕ
run_text texts b = texts ++ board_report b

-- all of that was written
abbrev pub Reports : SinkSeen → SinkSeen → List ℕ → SeenBoard → Type 0
Reports old new texts b = new.told ≡ option_map (λ written. written ++ run_text texts b) old.told

-- how a run that stopped so, or ended gracefully, may end: with 6 besides wherever memory lacked for its report
abbrev pub MayEndWith : Going → ℕ → Type 0
MayEndWith (Ending until) status = (status ≡ 0) ⊎ (status ≡ 5) ⊎ (status ≡ 6)
MayEndWith (Halted why.Overdue) status = (status ≡ 0) ⊎ (status ≡ 5) ⊎ (status ≡ 6)
MayEndWith (Halted why.FrontEnded) status = (status ≡ 0) ⊎ (status ≡ 5) ⊎ (status ≡ 6)
MayEndWith (Halted why.Asked) status = (status ≡ 0) ⊎ (status ≡ 5) ⊎ (status ≡ 6)
MayEndWith (Halted why.FrontFailed) status = (status ≡ 4) ⊎ (status ≡ 6)
MayEndWith (Halted why.NoMemory) status = status ≡ 6
MayEndWith other status = ⊥

-- the server stopped because nothing more could come, or because it was asked to, or ended gracefully
abbrev pub IsGoodEnd : Going → Type 0
IsGoodEnd going = (going ≡ Halted why.FrontEnded) ⊎ (going ≡ Halted why.Asked) ⊎ HasEndedGracefully going

-- with exit status 0, of a run: it stopped so, and the texts and the report were written
pub record EndsWell (sink sink' : SinkSeen) (texts : List ℕ) (b : SeenBoard) : Type 0 where
  pub going : IsGoodEnd b.book.state.going
  pub report : Reports sink sink' texts b

-- with exit status 5, of a run: the same, but a write of them failed, and they were not written whole
pub record EndsUnwritten (sink sink' : SinkSeen) (texts : List ℕ) (b : SeenBoard) : Type 0 where
  pub going : IsGoodEnd b.book.state.going
  pub unwritten : LeavesUnwritten sink sink' (run_text texts b)

-- with exit status 4, of a run: a wait of its front failed
pub record EndsFailed (sink sink' : SinkSeen) (texts : List ℕ) (b : SeenBoard) : Type 0 where
  pub going : b.book.state.going ≡ Halted why.FrontFailed
  pub text : WritesText sink sink' (run_text texts b)

-- with exit status 6, of a run: its server stopped for want of memory, and the texts and the report were written; or memory lacked
-- for the report, and nothing was written behind the texts
abbrev pub EndsLacking : SinkSeen → SinkSeen → List ℕ → SeenBoard → Type 0
EndsLacking sink sink' texts b =
    ((b.book.state.going ≡ Halted why.NoMemory) × WritesText sink sink' (run_text texts b)) ⊎ WritesText sink sink' texts

-- how a run ends with its exit status
pub record EndsAs (sink sink' : SinkSeen) (texts : List ℕ) (b : SeenBoard) (status : ℕ) : Type 0 where
  pub may : MayEndWith b.book.state.going status
  pub well : status ≡ 0 → EndsWell sink sink' texts b
  pub failed : status ≡ 4 → EndsFailed sink sink' texts b
  pub unwritten : status ≡ 5 → EndsUnwritten sink sink' texts b
  pub lacking : status ≡ 6 → EndsLacking sink sink' texts b
