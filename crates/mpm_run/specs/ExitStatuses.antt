-- Why a run ends with its exit status, and what it leaves of the output.
-- Why it is so stands in docs/DECISIONS.md: 77, Why a status comes; 81, What a run without memory leaves out.
use Rattle.board.specs.Board.{SeenBoard}
use Rattle.command_words.specs.Invocations.{IsNoInvocation}
use Rattle.mpm_base.specs.Front.{FrontSeen}
use Rattle.script_run.specs.ScriptRefusals.{EndsMisconfigured, EndsScriptSiteRefused, EndsRefused}
use Rattle.script_run.specs.declared.scripted.Scripted.{Scripted}
use Rattle.run_opening.specs.Calls.{Call}
use Rattle.run_report.specs.Texts.{usage}
use Rattle.run_report.specs.Written.{WritesText}
use Rattle.std.specs.Prelude.{◌≡◌, ◌≢◌, ℕ, ◌≤◌, ◌⊎◌, List, Option, None, IfSome, IsSome, IsNone}
use Rattle.script_run.specs.Played.{HasPlayed}
use Rattle.run_opening.specs.Refusals.{EndsSilently}
use Rattle.server_run.specs.Ends.{EndsUnread, EndsServedSiteRefused, EndsTested, EndsTestUnwritten, EndsSent, EndsSentUnwritten, EndsRestartRefused, EndsUncontrolled, EndsUndialled, EndsUnbound, LeavesOutside, HasRunServer, EndsFileRefused}

-- ## Where no run opened

-- with exit status 2
pub record EndsUnknown (call : Call) : Type 0 where
  pub unknown : IsNoInvocation call.words
  pub unasked : call.store' ≡ call.store
  pub shows : call.shown ≡ None
  pub text : WritesText call.sink call.sink' usage

-- ## Where a configuration is refused

-- with exit status 1
abbrev pub EndsConfigRefused : Call → Type 0
EndsConfigRefused call = EndsMisconfigured call ⊎ EndsFileRefused call

-- ## Where a site is refused

-- with exit status 9
abbrev pub EndsSiteRefused : Call → Type 0
EndsSiteRefused call = EndsScriptSiteRefused call ⊎ EndsServedSiteRefused call

-- ## Of each exit status

-- the exit statuses that there are
abbrev pub IsExitStatus : ℕ → Type 0
IsExitStatus s = (s ≤ 12) × (s ≢ 7) × (s ≢ 11)

-- with exit status 0: the run of a script or of a server ended well, as is said of what is left of it; or a test did, or a command was sent
abbrev pub Succeeds : Call → FrontSeen → FrontSeen → Option Scripted → Option SeenBoard → Type 0
Succeeds call f f' scripted board = IsSome scripted ⊎ IsSome board ⊎ EndsTested call ⊎ EndsSent call f f'

-- with exit status 4: a wait failed of the run over the front, as is said of its board; or the front could not be bound; or the dial of
-- a command failed
abbrev pub EndsFrontFault : Call → FrontSeen → FrontSeen → Option SeenBoard → Type 0
EndsFrontFault call f f' board = IsSome board ⊎ EndsUnbound call f f' ⊎ EndsUndialled call f f'

-- with exit status 5: a write failed of the texts of the run of a script or of a server, as is said of what is left of it; or of those of a
-- test, or of the answer of a command; and they were not written whole
abbrev pub LacksOutput : Call → FrontSeen → FrontSeen → Option Scripted → Option SeenBoard → Type 0
LacksOutput call f f' scripted board = IsSome scripted ⊎ IsSome board ⊎ EndsTestUnwritten call ⊎ EndsSentUnwritten call f f'

-- each exit status has its cause
pub record Causes (call : Call) (f f' : FrontSeen) (status : ℕ) (scripted : Option Scripted) (board : Option SeenBoard) : Type 0 where
  pub known : IsExitStatus status
  -- a run came to its end, and the output has the warnings, a line for each line that asks for the state, and the report; or a configuration
  -- was tested that is accepted, and the output has its warnings and says so; or a command was sent, and the output has what came back, which
  -- doesn't say that a restart was refused
  pub served : status ≡ 0 → Succeeds call f f' scripted board
  pub misconfigured : status ≡ 1 → EndsConfigRefused call
  pub unknown : status ≡ 2 → EndsUnknown call
  pub unread : status ≡ 3 → EndsUnread call
  pub front_failed : status ≡ 4 → EndsFrontFault call f f' board
  pub unwritten : status ≡ 5 → LacksOutput call f f' scripted board
  -- a run stopped for want of memory, as is said of what is left of it; or none opened for that, and then the output is as it was, and
  -- nothing is shown
  pub silent : status ≡ 6 → IsNone scripted → IsNone board → EndsSilently call.sink call.sink' call.shown
  pub refused : status ≡ 8 → EndsRefused call
  pub site_refused : status ≡ 9 → EndsSiteRefused call
  pub uncontrolled : status ≡ 10 → EndsUncontrolled call
  pub restart_refused : status ≡ 12 → EndsRestartRefused call f f'

-- ## What a call leaves

-- what a call leaves of its run, where one opened, and of the front and the clock, where none of a server did
pub record LeavesAll (call : Call) (f f' : FrontSeen) (calls calls' : Option (List (ℕ × ℕ))) (status : ℕ)
    (scripted : Option Scripted) (board : Option SeenBoard) : Type 0 where
  -- whatever the exit status, what is left of a script's run is of one of the script that was read or made. It was stopped as its exit status
  -- says, and the output has its warnings, a line for each line that asks for the state, and its report, or as much of them as that says
  pub kept : IfSome scripted (λ s. HasPlayed call s.config s.board s.front s.clock s.store status)
  -- the same of what is left of a server, as far as its front, its clock and its store tell. Over each front, whether it tells or not, it
  -- did no more than command lines were given
  pub server : IfSome board (HasRunServer call f f' calls' status)
  -- where no run of a server opened the clock is as it was, and so is the front, but for the dial that the words ask for, and for a bind
  -- or a dial that failed
  pub unopened : IsNone board → LeavesOutside call f f' calls calls' status
