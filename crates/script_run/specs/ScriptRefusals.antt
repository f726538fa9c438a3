-- Why a script isn't played, and what was written of it.
use Rattle.command_words.specs.Invocations.{IsScriptWords}
use Rattle.mpm_base.specs.declared.script_line.ScriptLine.{ScriptLine}
use Rattle.mpm_config.specs.Config.{Configuration}
use Rattle.script_run.specs.Scripts.{HasScript, PlaysLines, most_script, HasConfig, IsSiteRefused}
use Rattle.mpm_script.specs.Script.{ScriptIs}
use Rattle.mpm_script.specs.declared.script.ScriptFault.{ScriptFault}
use Rattle.run_opening.specs.Calls.{Call, IsRefusedAsLarge, KeepsFiles}
use Rattle.run_opening.specs.Configured.{Configures, IsNoConfig}
use Rattle.run_report.specs.Texts.{config_refused, script_refused, site_refused}
use Rattle.run_report.specs.Written.{WritesText}
use Rattle.run_report.specs.declared.texts.ConfigRefusal.{ConfigRefusal}
use Rattle.run_report.specs.declared.texts.ScriptRefusal.{ScriptRefusal}
use Rattle.run_report.specs.declared.texts.ScriptRefusal.TheVariants.{BadLine, MomentBackwards, UnknownName}
use Rattle.std.specs.Prelude.{◌≡◌, ℕ, ◌⊎◌, List, Some, None, Err}
use Rattle.mpm_script.specs.declared.script.ScriptFault.TheVariants as script

-- with exit status 8, for the size
pub record EndsTooLarge (call : Call) : Type 0 where
  pub name : List ℕ
  pub command : IsScriptWords call.words name
  pub kept : KeepsFiles call
  pub cause : IsRefusedAsLarge most_script call name
  pub shows : call.shown ≡ Some 0
  pub text : WritesText call.sink call.sink' (script_refused 0 BadLine)

-- the fault of a script that is refused so at that line
abbrev pub fault_at : ScriptRefusal → ℕ → ScriptFault
fault_at BadLine line = script.BadLine line
fault_at MomentBackwards line = script.MomentBackwards line
fault_at UnknownName line = script.UnknownName line

-- with exit status 8, for a line
pub record EndsAtLine (call : Call) : Type 0 where
  pub name : List ℕ
  pub bytes : List ℕ
  pub line : ℕ
  pub why : ScriptRefusal
  pub command : IsScriptWords call.words name
  pub has : HasScript call name bytes
  pub refused : ScriptIs bytes (Err (fault_at why line))
  pub shows : call.shown ≡ Some line
  pub text : WritesText call.sink call.sink' (script_refused line why)

-- with exit status 8
abbrev pub EndsRefused : Call → Type 0
EndsRefused call = EndsTooLarge call ⊎ EndsAtLine call

-- with exit status 1, for the configuration of a script
pub record EndsMisconfigured (call : Call) : Type 0 where
  pub lines : List ScriptLine
  pub config : List ℕ
  pub number : ℕ
  pub why : ConfigRefusal
  pub plays : PlaysLines call lines
  pub config_is : HasConfig lines config
  pub refused : IsNoConfig config why number
  pub shows : call.shown ≡ Some number
  pub text : WritesText call.sink call.sink' (config_refused number why)

-- with exit status 9, for the site of a script, whose configuration is accepted
pub record EndsScriptSiteRefused (call : Call) : Type 0 where
  pub lines : List ScriptLine
  pub config_text : List ℕ
  pub config : Configuration
  pub refused_for : List ℕ
  pub plays : PlaysLines call lines
  pub config_is : HasConfig lines config_text
  pub accepted : Configures config_text config
  pub refused : IsSiteRefused lines config refused_for
  pub shows : call.shown ≡ None
  pub text : WritesText call.sink call.sink' (site_refused refused_for)
