-- What the parts that play a script answer.
use Rattle.board.specs.Board.{SeenBoard}
use Rattle.conn_machine.specs.Events.{count_events}
use Rattle.conn_machine.specs.declared.state.Going.TheVariants.{Halted}
use Rattle.file_table.specs.Site.{SeenSite}
use Rattle.mpm_base.specs.Sink.{SinkSeen}
use Rattle.mpm_base.specs.Store.{telling_store}
use Rattle.mpm_base.specs.declared.script_line.ScriptLine.{ScriptLine}
use Rattle.mpm_config.specs.Config.{Configuration}
use Rattle.listener_round.specs.Commands.{is_graceful_stop}
use Rattle.script_run.specs.Played.{opening_store, script_opening, HasPlayed, IsLeftOfRun}
use Rattle.listener_round.specs.FirstNumbers.{numbers_of, opened_by}
use Rattle.listener_round.specs.Heard.{open_lines}
use Rattle.listener.specs.Runs.{HasRun, ended_of_run, entries_of_run}
use Rattle.script_run.specs.Scripts.{HasConfig, HasScriptSite}
use Rattle.listener_round.specs.Stores.{KeepsStore}
use Rattle.listener.specs.Tells.{AllReceive}
use Rattle.script_run.specs.declared.scripted.Scripted.{Scripted}
use Rattle.mpm_script.specs.Clients.{clients_of, names_of}
use Rattle.run_opening.specs.Configured.{Configures, warnings_of}
use Rattle.script_front.specs.ScriptFront.{SeenFront}
use Rattle.stand_ins.specs.PlainStore.{SeenStore}
use Rattle.std.specs.Prelude.{◌≡◌, ℕ, ◌⊎◌, List, ◌++◌, length, IfSome, IsSome, IsNone, Option}
use Rattle.conn_machine.specs.declared.event.Why.TheVariants as why
use Rattle.run_opening.specs.Calls.{Call, IsFileUnread}
use Rattle.run_opening.specs.Refusals.{EndsSilently}
use Rattle.run_report.specs.Endings.{EndsAs}
use Rattle.script_run.specs.ScriptRefusals.{EndsMisconfigured, EndsRefused, EndsScriptSiteRefused}
use Rattle.command_words.specs.Invocations.{IsScriptWords}

-- the exit statuses of a script that was read, whose configuration is accepted, and which has a site
abbrev pub IsPlayedStatus : ℕ → Type 0
IsPlayedStatus s = (s ≡ 0) ⊎ (s ≡ 5) ⊎ (s ≡ 6)

-- the exit statuses of a script
abbrev pub IsScriptStatus : ℕ → Type 0
IsScriptStatus s = (s ≡ 0) ⊎ (s ≡ 1) ⊎ (s ≡ 3) ⊎ (s ≡ 5) ⊎ (s ≡ 6) ⊎ (s ≡ 8) ⊎ (s ≡ 9)

-- what is left is of a run by this configuration and this site, and then by the editions of the script, which did with its front and its clock
-- what such a run does; each connection received a front of what its client of the script sends, and all of it where the client had done;
-- where nothing more could come each connection of the script was taken, unless a graceful stop was begun; the store went on by the orders; and
-- it ended as its exit status says
pub record HasRunScript (lines : List ScriptLine) (c : Configuration) (site : SeenSite) (b : SeenBoard) (f : SeenFront) (calls : List (ℕ × ℕ))
    (store : SeenStore) (sink sink' : SinkSeen) (status : ℕ) : Type 0 where
  pub has_run : HasRun (script_opening lines c site) b
  pub left :
      IsLeftOfRun (script_opening lines c site) (numbers_of c) b (entries_of_run (script_opening lines c site) b has_run)
      (ended_of_run (script_opening lines c site) b has_run) f calls
  pub receive : AllReceive (clients_of lines) (ended_of_run (script_opening lines c site) b has_run)
  pub taken :
      b.book.state.going ≡ Halted why.FrontEnded
      → count_events is_graceful_stop (entries_of_run (script_opening lines c site) b has_run) ≡ 0
      → b.book.state.accepted ≡ length (names_of lines)
  pub store_is :
      KeepsStore b.book.state.going (entries_of_run (script_opening lines c site) b has_run)
      (opening_store lines) (telling_store store.told store.counts)
  pub ends :
      EndsAs sink sink'
      (warnings_of c ++ open_lines (opened_by (numbers_of c)) (entries_of_run (script_opening lines c site) b has_run) left.lines.heard)
      b status

-- what is left is of a run of the script by this configuration, and by the site that the script has by it
pub record IsServedRun (lines : List ScriptLine) (c : Configuration) (s : Scripted) (sink sink' : SinkSeen) (status : ℕ) : Type 0 where
  pub script : s.front.script ≡ lines
  pub config : s.config ≡ c
  pub site : SeenSite
  pub site_is : HasScriptSite lines c site
  pub run : HasRunScript lines c site s.board s.front s.clock s.store sink sink' status

-- what is left is of a run of the script, by the configuration that its lines write, and the site that they have by it
pub record IsPlayed (lines : List ScriptLine) (s : Scripted) (sink sink' : SinkSeen) (status : ℕ) : Type 0 where
  pub script : s.front.script ≡ lines
  pub text : List ℕ
  pub site : SeenSite
  pub text_is : HasConfig lines text
  pub accepted : Configures text s.config
  pub site_is : HasScriptSite lines s.config site
  pub run : HasRunScript lines s.config site s.board s.front s.clock s.store sink sink' status

-- how the play of a script ends, and what is left of its run, where one opened
pub record EndsScript (call : Call) (status : ℕ) (left : Option Scripted) : Type 0 where
  pub known : IsScriptStatus status
  pub kept : IfSome left (λ s. HasPlayed call s.config s.board s.front s.clock s.store status)
  pub opened : (status ≡ 0) ⊎ (status ≡ 5) → IsSome left
  pub misconfigured : status ≡ 1 → EndsMisconfigured call
  pub unread : status ≡ 3 → (name : List ℕ) × IsScriptWords call.words name × IsFileUnread call name
  pub refused : status ≡ 8 → EndsRefused call
  pub site_refused : status ≡ 9 → EndsScriptSiteRefused call
  pub silent : status ≡ 6 → IsNone left → EndsSilently call.sink call.sink' call.shown
