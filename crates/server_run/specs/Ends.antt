-- Why a form of the command line that goes by a configuration file of the store ends with its exit status, and what it leaves.
use Rattle.board.specs.Board.{SeenBoard}
use Rattle.command_words.specs.Invocations.{IsSendWords, IsServeWords, IsTestWords, NamesConfig, NamesFile}
use Rattle.file_table.specs.Site.{SeenSite}
use Rattle.mpm_base.specs.CommandWord.{command_word}
use Rattle.mpm_base.specs.Front.{Binds, Dials, FrontSeen}
use Rattle.mpm_base.specs.GivenAnswers.{says_refused}
use Rattle.mpm_base.specs.declared.script_line.CommandWord.{CommandWord}
use Rattle.mpm_config.specs.Config.{Configuration}
use Rattle.listener.specs.Counted.{CountsRun, GivesNoEnding}
use Rattle.listener_round.specs.Commands.{GivesLines}
use Rattle.listener_round.specs.FirstNumbers.{numbers_of, opened_by}
use Rattle.listener_round.specs.Generations.{Opening}
use Rattle.listener_round.specs.Heard.{KeepsLines, open_lines}
use Rattle.listener.specs.Outside.{KeepsOutside}
use Rattle.listener.specs.Runs.{HasRun, ended_of_run, entries_of_run}
use Rattle.listener_round.specs.Stores.{KeepsStore}
use Rattle.restart_control.specs.Reload.{most_config}
use Rattle.run_opening.specs.Calls.{Call, HadConfigAccepted, HasConfigAccepted, HasFile, IsRefusedAsLarge, IsFileUnread, KeepsFiles, HasSiteRefused, LoadsSite, StoreFailed}
use Rattle.run_opening.specs.Configured.{IsRefused, warnings_of}
use Rattle.run_report.specs.Endings.{EndsAs}
use Rattle.run_report.specs.Texts.{config_refused, front_fault, no_control_line, site_refused, store_fault, syntax_ok}
use Rattle.run_report.specs.Written.{LeavesUnwritten, WritesText}
use Rattle.run_report.specs.declared.texts.ConfigRefusal.{ConfigRefusal}
use Rattle.run_report.specs.declared.texts.ConfigRefusal.TheVariants.{BadValue}
use Rattle.std.specs.Prelude.{◌≡◌, ℕ, ◌⊎◌, Bool, true, false, List, [], ◌++◌, Option, Some, None, option_map}

-- ## Where no run opened

-- with exit status 3, for the file that the words name
pub record EndsFileUnread (call : Call) : Type 0 where
  pub name : List ℕ
  pub command : NamesFile call.words name
  pub unread : IsFileUnread call name

-- with exit status 3, for the files of the site: the configuration is accepted, and a call of the store failed
pub record EndsSiteUnread (call : Call) : Type 0 where
  pub name : List ℕ
  pub config : Configuration
  pub command : IsServeWords call.words name
  pub accepted : HasConfigAccepted call name config
  pub failed : StoreFailed call
  pub shows : call.shown ≡ None
  pub text : WritesText call.sink call.sink' (store_fault config.root)

-- with exit status 3
abbrev pub EndsUnread : Call → Type 0
EndsUnread call = EndsFileUnread call ⊎ EndsSiteUnread call

-- ## Where a configuration is refused

-- with exit status 1, for the size of the configuration that the words name
pub record EndsConfigTooLarge (call : Call) : Type 0 where
  pub name : List ℕ
  pub command : NamesConfig call.words name
  pub kept : KeepsFiles call
  pub cause : IsRefusedAsLarge most_config call name
  pub shows : call.shown ≡ Some 0
  pub text : WritesText call.sink call.sink' (config_refused 0 BadValue)

-- with exit status 1, for a line or a place of the configuration that the words name
pub record EndsConfigUnfit (call : Call) : Type 0 where
  pub name : List ℕ
  pub bytes : List ℕ
  pub number : ℕ
  pub why : ConfigRefusal
  pub command : NamesConfig call.words name
  pub has : HasFile most_config call name bytes
  pub refused : IsRefused bytes why number
  pub shows : call.shown ≡ Some number
  pub text : WritesText call.sink call.sink' (config_refused number why)

-- with exit status 1, for the configuration that the words name
abbrev pub EndsFileRefused : Call → Type 0
EndsFileRefused call = EndsConfigTooLarge call ⊎ EndsConfigUnfit call

-- ## Where a site is refused

-- with exit status 9, for the site that was to be served, whose configuration is accepted
pub record EndsServedSiteRefused (call : Call) : Type 0 where
  pub name : List ℕ
  pub config : Configuration
  pub refused_for : List ℕ
  pub command : IsServeWords call.words name
  pub accepted : HasConfigAccepted call name config
  pub refused : HasSiteRefused call config refused_for
  pub shows : call.shown ≡ None
  pub text : WritesText call.sink call.sink' (site_refused refused_for)

-- ## Where a configuration was tested

-- with exit status 0, of a test: the configuration is accepted, its warnings were written, and that it is
pub record EndsTested (call : Call) : Type 0 where
  pub name : List ℕ
  pub config : Configuration
  pub command : IsTestWords call.words name
  pub accepted : HasConfigAccepted call name config
  pub shows : call.shown ≡ None
  pub text : call.sink'.told ≡ option_map (λ written. written ++ (warnings_of config ++ syntax_ok)) call.sink.told

-- with exit status 5, of a test: the configuration is accepted, and a write of its texts failed, which were not written whole
pub record EndsTestUnwritten (call : Call) : Type 0 where
  pub name : List ℕ
  pub config : Configuration
  pub command : IsTestWords call.words name
  pub accepted : HasConfigAccepted call name config
  pub shows : call.shown ≡ None
  pub unwritten : LeavesUnwritten call.sink call.sink' (warnings_of config ++ syntax_ok)

-- ## Where a command was sent

-- the words have the command sent to the control port of the configuration of that name, which is accepted
pub record Sends (call : Call) (word : CommandWord) (port : ℕ) : Type 0 where
  pub name : List ℕ
  pub config : Configuration
  pub command : IsSendWords call.words word name
  pub accepted : HasConfigAccepted call name config
  pub control : config.control ≡ Some port
  pub shows : call.shown ≡ None

-- the front was asked once to dial the port of such a command with its word, and answered so, and this came back
pub record HasDialled (call : Call) (f f' : FrontSeen) (answer : Bool) (text : List ℕ) : Type 0 where
  pub word : CommandWord
  pub port : ℕ
  pub sends : Sends call word port
  pub dials : Dials f f' port (command_word word) answer text

-- the front dialled the port with the word, and this came back, which doesn't say that a restart was refused
pub record IsAnsweredWell (call : Call) (f f' : FrontSeen) (text : List ℕ) : Type 0 where
  pub dialled : HasDialled call f f' true text
  pub well : says_refused text ≡ false

-- with exit status 0, of a command: the front dialled the port with its word, and what came back was written; it doesn't say that a restart
-- was refused
pub record EndsSent (call : Call) (f f' : FrontSeen) : Type 0 where
  pub text : List ℕ
  pub answered : IsAnsweredWell call f f' text
  pub written : call.sink'.told ≡ option_map (λ written. written ++ text) call.sink.told

-- with exit status 5, of a command: the same, but a write failed, and what came back was not written whole
pub record EndsSentUnwritten (call : Call) (f f' : FrontSeen) : Type 0 where
  pub text : List ℕ
  pub answered : IsAnsweredWell call f f' text
  pub unwritten : LeavesUnwritten call.sink call.sink' text

-- with exit status 12: the front dialled the port with the word, and what came back says that a restart was refused, be it written or not
pub record EndsRestartRefused (call : Call) (f f' : FrontSeen) : Type 0 where
  pub text : List ℕ
  pub dialled : HasDialled call f f' true text
  pub refused : says_refused text ≡ true
  pub written : WritesText call.sink call.sink' text

-- with exit status 10: the configuration is accepted, and has no control line
pub record EndsUncontrolled (call : Call) : Type 0 where
  pub word : CommandWord
  pub name : List ℕ
  pub config : Configuration
  pub command : IsSendWords call.words word name
  pub accepted : HasConfigAccepted call name config
  pub control : config.control ≡ None
  pub shows : call.shown ≡ None
  pub text : WritesText call.sink call.sink' no_control_line

-- ## Where the front failed before a run opened

-- with exit status 4, of a command: the dial failed
pub record EndsUndialled (call : Call) (f f' : FrontSeen) : Type 0 where
  pub dialled : HasDialled call f f' false []
  pub text : WritesText call.sink call.sink' front_fault

-- the configuration of a server is accepted and its site loaded, and the front could not be bound to what the configuration says
pub record IsUnbound (call : Call) (f f' : FrontSeen) : Type 0 where
  pub name : List ℕ
  pub config : Configuration
  pub site : SeenSite
  pub command : IsServeWords call.words name
  pub accepted : HasConfigAccepted call name config
  pub loads : LoadsSite call config site
  pub binds : Binds f f' config.listen config.control false

-- with exit status 4, of a server: the front could not be bound
pub record EndsUnbound (call : Call) (f f' : FrontSeen) : Type 0 where
  pub unbound : IsUnbound call f f'
  pub shows : call.shown ≡ None
  pub text : WritesText call.sink call.sink' front_fault

-- ## What became of the front and the clock where no run of a server opened

-- a bind or a dial of the front failed, with exit status 4, or with 6 where memory lacked for the text of that
pub record FailsFront (call : Call) (f f' : FrontSeen) (status : ℕ) : Type 0 where
  pub status_is : (status ≡ 4) ⊎ (status ≡ 6)
  pub failed : IsUnbound call f f' ⊎ HasDialled call f f' false []

-- the front dialled for a command, with exit status 0 or 5, or with 12 where what came back says that a restart was refused
pub record DialsFor (call : Call) (f f' : FrontSeen) (status : ℕ) : Type 0 where
  pub text : List ℕ
  pub dialled : HasDialled call f f' true text
  pub status_is : ((says_refused text ≡ true) × (status ≡ 12)) ⊎ ((says_refused text ≡ false) × ((status ≡ 0) ⊎ (status ≡ 5)))

-- the front is as it was; or it dialled for a command; or a bind or a dial of it failed
abbrev pub LeavesFront : Call → FrontSeen → FrontSeen → ℕ → Type 0
LeavesFront call f f' status = (f' ≡ f) ⊎ DialsFor call f f' status ⊎ FailsFront call f f' status

-- so it is with the front, and a clock that tells has told no further call
pub record LeavesOutside (call : Call) (f f' : FrontSeen) (calls calls' : Option (List (ℕ × ℕ))) (status : ℕ) : Type 0 where
  pub front : LeavesFront call f f' status
  pub clock : calls' ≡ calls

-- ## Of a server

-- how a server opened by the configuration of that name, and by this site
abbrev pub server_opening : Call → FrontSeen → List ℕ → Configuration → SeenSite → Opening
server_opening call f name c site = record { name = name; config = c; site = site; store = call.store; front = f }

-- a server was run over the front and the clock, and what is left is of a run by the configuration of the file that the words name and
-- by the site of the store, and then by the store's editions; all its entries, and all its connections that ended, are tied to the front, the
-- clock and the store, of what the front counted too; each command line that was read was answered; and it ended as its exit status says, with
-- a line of the output for each line that asks for the state, between the warnings and the report
pub record HasRunServer (call : Call) (f f' : FrontSeen) (calls : Option (List (ℕ × ℕ))) (status : ℕ) (b : SeenBoard) : Type 0 where
  pub name : List ℕ
  pub config : Configuration
  pub site : SeenSite
  pub command : IsServeWords call.words name
  pub accepted : HadConfigAccepted call name config
  pub loads : LoadsSite call config site
  pub shows : call.shown ≡ None
  pub has_run : HasRun (server_opening call f name config site) b
  pub outside :
      KeepsOutside (numbers_of config) f f' calls b.book.state (entries_of_run (server_opening call f name config site) b has_run)
      (ended_of_run (server_opening call f name config site) b has_run)
  pub counted : CountsRun b.book f.counts f'.counts
  pub unended :
      GivesNoEnding b.book.state.going (entries_of_run (server_opening call f name config site) b has_run) f.counts f'.counts
  pub given : GivesLines (entries_of_run (server_opening call f name config site) b has_run) f f'
  pub lines :
      KeepsLines (server_opening call f name config site) (opened_by (numbers_of config)) outside.pace.first outside.pace.shares f f'
      b.book.state.going (entries_of_run (server_opening call f name config site) b has_run)
  pub store :
      KeepsStore b.book.state.going (entries_of_run (server_opening call f name config site) b has_run) call.store call.store'
  pub ends :
      EndsAs call.sink call.sink'
      (warnings_of config
      ++ open_lines (opened_by (numbers_of config)) (entries_of_run (server_opening call f name config site) b has_run) lines.heard)
      b status

-- what such a server writes before its report: the warnings of its configuration, and a line for each line that asks for the state
abbrev pub texts_of_server :
    {call : Call} {f f' : FrontSeen} {calls : Option (List (ℕ × ℕ))} {status : ℕ} {b : SeenBoard}
    → HasRunServer call f f' calls status b → List ℕ
texts_of_server {call} {f} {b = b} run =
    warnings_of run.config
    ++ open_lines (opened_by (numbers_of run.config)) (entries_of_run (server_opening call f run.name run.config run.site) b run.has_run) run.lines.heard
