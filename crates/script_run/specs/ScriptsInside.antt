-- What the parts answer that read a script's configuration and load its site.
use Rattle.file_table.specs.declared.load_fault.LoadFault.{LoadFault}
use Rattle.mpm_base.specs.Sink.{SinkSeen}
use Rattle.mpm_base.specs.declared.script_line.ScriptLine.{ScriptLine}
use Rattle.mpm_config.specs.Config.{Configuration}
use Rattle.script_run.specs.ScriptRefusals.{fault_at}
use Rattle.script_run.specs.Scripts.{HasConfig, IsSiteRefused}
use Rattle.mpm_script.specs.declared.script.ScriptFault.{ScriptFault}
use Rattle.run_opening.specs.Configured.{Configures, IsNoConfig, warnings_of}
use Rattle.run_opening.specs.RefusalsInside.{RefusesRun}
use Rattle.run_opening.specs.declared.config_reading.NoConfig.{NoConfig}
use Rattle.run_report.specs.Texts.{config_refused, script_refused, site_refused}
use Rattle.run_report.specs.Written.{WritesText}
use Rattle.run_report.specs.declared.texts.ConfigRefusal.{ConfigRefusal}
use Rattle.run_report.specs.declared.texts.ScriptRefusal.{ScriptRefusal}
use Rattle.std.specs.Prelude.{◌≡◌, ℕ, List, Option, Some, Result, Ok, Err, ⊤, None}
use Rattle.file_table.specs.declared.load_fault.LoadFault.TheVariants as fault
use Rattle.run_opening.specs.declared.config_reading.NoConfig.TheVariants as no

-- the configuration of a script, and what is told of its corrections
pub record HasReadConfig (lines : List ScriptLine) (c : Configuration) (told : List ℕ) : Type 0 where
  pub text : List ℕ
  pub text_is : HasConfig lines text
  pub accepted : Configures text c
  pub told_is : told ≡ warnings_of c

-- the configuration of a script is refused so
pub record HasBadConfig (lines : List ScriptLine) (why : ConfigRefusal) (number : ℕ) : Type 0 where
  pub text : List ℕ
  pub text_is : HasConfig lines text
  pub refused : IsNoConfig text why number

-- the configuration of a script, or why there is none; it always has a file, and memory may lack
abbrev pub IsScriptConfig : List ScriptLine → Result (Configuration × List ℕ) NoConfig → Type 0
IsScriptConfig lines (Ok read) = HasReadConfig lines read.0 read.1
IsScriptConfig lines (Err (no.Refused why number)) = HasBadConfig lines why number
IsScriptConfig lines (Err no.NoMemory) = ⊤
IsScriptConfig lines (Err no.Missing) = ⊥
IsScriptConfig lines (Err no.Failed) = ⊥

-- it is for a text that there is no configuration, or for want of memory
abbrev pub IsOfText : NoConfig → Type 0
IsOfText (no.Refused why number) = ⊤
IsOfText no.NoMemory = ⊤
IsOfText no.Missing = ⊥
IsOfText no.Failed = ⊥

-- a run is refused as there is no configuration
abbrev pub RefusesConfig : SinkSeen → SinkSeen → NoConfig → Option ℕ → Type 0
RefusesConfig sink sink' (no.Refused why number) shown = RefusesRun sink sink' (Some number) (config_refused number why) shown
RefusesConfig sink sink' no.NoMemory shown = ⊥
RefusesConfig sink sink' no.Missing shown = ⊥
RefusesConfig sink sink' no.Failed shown = ⊥

-- a script is refused for the fault: its line is shown, and its text was written
pub record IsRefusalOf (sink sink' : SinkSeen) (e : ScriptFault) (shown : Option ℕ) : Type 0 where
  pub line : ℕ
  pub why : ScriptRefusal
  pub fault_is : e ≡ fault_at why line
  pub shows : shown ≡ Some line
  pub text : WritesText sink sink' (script_refused line why)

-- the configuration of the script is refused: what is shown of it, and its text was written
pub record IsConfigRefusalOf (sink sink' : SinkSeen) (lines : List ScriptLine) (shown : Option ℕ) : Type 0 where
  pub number : ℕ
  pub why : ConfigRefusal
  pub bad : HasBadConfig lines why number
  pub shows : shown ≡ Some number
  pub text : WritesText sink sink' (config_refused number why)

-- a run is refused for the fault, as there is no site by the configuration
abbrev pub RefusesLoad : SinkSeen → SinkSeen → Configuration → LoadFault → Option ℕ → Type 0
RefusesLoad sink sink' c fault.StoreFault shown = ⊥
RefusesLoad sink sink' c (fault.TooMany root) shown = RefusesRun sink sink' None (site_refused root) shown
RefusesLoad sink sink' c (fault.TooLarge name size) shown = RefusesRun sink sink' None (site_refused name) shown
RefusesLoad sink sink' c fault.NoMemory shown = ⊥

-- the site of the script is refused by the configuration, and its text was written
pub record RefusesSite (sink sink' : SinkSeen) (lines : List ScriptLine) (c : Configuration) (shown : Option ℕ) : Type 0 where
  pub name : List ℕ
  pub refused : IsSiteRefused lines c name
  pub shows : shown ≡ None
  pub text : WritesText sink sink' (site_refused name)

-- the same by the configuration that the lines of the script write
pub record IsSiteRefusalOf (sink sink' : SinkSeen) (lines : List ScriptLine) (shown : Option ℕ) : Type 0 where
  pub config_text : List ℕ
  pub config : Configuration
  pub text_is : HasConfig lines config_text
  pub accepted : Configures config_text config
  pub refusal : RefusesSite sink sink' lines config shown
