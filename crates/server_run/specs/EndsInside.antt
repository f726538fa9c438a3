-- What the parts of the top call say of the exit status and of what was written.
use Rattle.file_table.specs.declared.load_fault.LoadFault.{LoadFault}
use Rattle.mpm_base.specs.Front.{Binds, FrontSeen}
use Rattle.mpm_base.specs.GivenAnswers.{says_refused}
use Rattle.mpm_base.specs.Sink.{SinkSeen}
use Rattle.mpm_config.specs.Config.{Configuration}
use Rattle.run_opening.specs.RefusalsInside.{RefusesRun}
use Rattle.run_report.specs.Texts.{site_refused, store_fault}
use Rattle.run_report.specs.Written.{LeavesUnwritten, WritesText}
use Rattle.std.specs.Prelude.{◌≡◌, ℕ, true, false, ◌⊎◌, ◌++◌, Option, None, IfSome, IsNone, IsSome, List, option_map}
use Rattle.file_table.specs.declared.load_fault.LoadFault.TheVariants as fault
use Rattle.board.specs.Board.{SeenBoard}
use Rattle.run_opening.specs.Calls.{Call}
use Rattle.run_opening.specs.Refusals.{EndsSilently}
use Rattle.server_run.specs.Ends.{EndsFileRefused, EndsRestartRefused, EndsSent, EndsSentUnwritten, EndsServedSiteRefused, EndsTested, EndsTestUnwritten, EndsUnbound, EndsUncontrolled, EndsUndialled, EndsUnread, HasRunServer, LeavesFront, LeavesOutside}

-- ## The exit status on the way

-- the exit statuses of a test
abbrev pub IsTestStatus : ℕ → Type 0
IsTestStatus s = (s ≡ 0) ⊎ (s ≡ 1) ⊎ (s ≡ 3) ⊎ (s ≡ 5) ⊎ (s ≡ 6)

-- the exit statuses of a server that was run, or for which the front could not be bound or memory lacked
abbrev pub IsOpenedStatus : ℕ → Type 0
IsOpenedStatus s = (s ≡ 0) ⊎ (s ≡ 4) ⊎ (s ≡ 5) ⊎ (s ≡ 6)

-- the exit statuses of a server
abbrev pub IsServedStatus : ℕ → Type 0
IsServedStatus s = IsOpenedStatus s ⊎ (s ≡ 1) ⊎ (s ≡ 3) ⊎ (s ≡ 9)

-- the exit statuses of a command
abbrev pub IsSentStatus : ℕ → Type 0
IsSentStatus s = (s ≡ 0) ⊎ (s ≡ 1) ⊎ (s ≡ 3) ⊎ (s ≡ 4) ⊎ (s ≡ 5) ⊎ (s ≡ 6) ⊎ (s ≡ 10) ⊎ (s ≡ 12)

-- ## What became of the front on the way

-- the front is as it was; or it could not be bound, with exit status 4, or with 6 where memory lacked for the text of that
abbrev pub LeavesUnbound : FrontSeen → FrontSeen → Configuration → ℕ → Type 0
LeavesUnbound f f' c status = (f' ≡ f) ⊎ (((status ≡ 4) ⊎ (status ≡ 6)) × Binds f f' c.listen c.control false)

-- a run is refused with the exit status for the fault, as there is no site by the configuration
abbrev pub RefusesFolder : SinkSeen → SinkSeen → Configuration → LoadFault → ℕ → Option ℕ → Type 0
RefusesFolder sink sink' c fault.StoreFault status shown = (status ≡ 3) × RefusesRun sink sink' None (store_fault c.root) shown
RefusesFolder sink sink' c (fault.TooMany root) status shown = (status ≡ 9) × RefusesRun sink sink' None (site_refused root) shown
RefusesFolder sink sink' c (fault.TooLarge name size) status shown = (status ≡ 9) × RefusesRun sink sink' None (site_refused name) shown
RefusesFolder sink sink' c fault.NoMemory status shown = ⊥

-- ## How a form ends

-- how the test of a configuration ends
pub record EndsTest (call : Call) (status : ℕ) : Type 0 where
  pub known : IsTestStatus status
  pub tested : status ≡ 0 → EndsTested call
  pub misconfigured : status ≡ 1 → EndsFileRefused call
  pub unread : status ≡ 3 → EndsUnread call
  pub unwritten : status ≡ 5 → EndsTestUnwritten call
  pub silent : status ≡ 6 → EndsSilently call.sink call.sink' call.shown

-- how a command ends that is sent
pub record EndsSend (call : Call) (f f' : FrontSeen) (status : ℕ) : Type 0 where
  pub known : IsSentStatus status
  pub front : LeavesFront call f f' status
  pub sent : status ≡ 0 → EndsSent call f f'
  pub misconfigured : status ≡ 1 → EndsFileRefused call
  pub unread : status ≡ 3 → EndsUnread call
  pub undialled : status ≡ 4 → EndsUndialled call f f'
  pub unwritten : status ≡ 5 → EndsSentUnwritten call f f'
  pub silent : status ≡ 6 → EndsSilently call.sink call.sink' call.shown
  pub uncontrolled : status ≡ 10 → EndsUncontrolled call
  pub restart_refused : status ≡ 12 → EndsRestartRefused call f f'

-- how a server ends, and what is left of it, where it opened
pub record EndsServe (call : Call) (f f' : FrontSeen) (calls calls' : Option (List (ℕ × ℕ))) (status : ℕ)
    (left : Option SeenBoard) : Type 0 where
  pub known : IsServedStatus status
  pub server : IfSome left (HasRunServer call f f' calls' status)
  pub opened : (status ≡ 0) ⊎ (status ≡ 5) → IsSome left
  pub unopened : IsNone left → LeavesOutside call f f' calls calls' status
  pub misconfigured : status ≡ 1 → EndsFileRefused call
  pub unread : status ≡ 3 → EndsUnread call
  pub front_failed : status ≡ 4 → IsSome left ⊎ EndsUnbound call f f'
  pub silent : status ≡ 6 → IsNone left → EndsSilently call.sink call.sink' call.shown
  pub site_refused : status ≡ 9 → EndsServedSiteRefused call

-- the answer of a command was written by the exit status: 12 where it says that a restart was refused, be it written or not; else 0 where it
-- was written whole, and 5 where it wasn't
pub record ShowsAnswer (sink sink' : SinkSeen) (text : List ℕ) (status : ℕ) : Type 0 where
  pub refused : says_refused text ≡ true → (status ≡ 12) × WritesText sink sink' text
  pub answered : says_refused text ≡ false → (status ≡ 0) ⊎ (status ≡ 5)
  pub written : status ≡ 0 → sink'.told ≡ option_map (λ written. written ++ text) sink.told
  pub unwritten : status ≡ 5 → LeavesUnwritten sink sink' text
