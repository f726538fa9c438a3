-- The configuration that a run or a test reads: its size, why it is refused, and what is told of it.
use Rattle.mpm_config.specs.Config.{Configuration}
use Rattle.mpm_config.specs.Correction.{notice_text, notices}
use Rattle.mpm_config.specs.Reading.{ConfigAndWarnings, config_of}
use Rattle.mpm_config.specs.declared.fault.ConfFault.{ConfFault}
use Rattle.restart_control.specs.Reload.{most_config}
use Rattle.run_report.specs.declared.texts.ConfigRefusal.{ConfigRefusal}
use Rattle.run_report.specs.declared.texts.ConfigRefusal.TheVariants.{NotText, UnknownDirective, BadValue, BadSection, Unclosed, TooDeep}
use Rattle.std.specs.List.{flat_map}
use Rattle.std.specs.Prelude.{◌≡◌, ℕ, ◌<◌, ◌≤◌, ◌⊎◌, List, length, Ok, Err}
use Rattle.mpm_config.specs.declared.fault.ConfFault.TheVariants as conf

-- the configuration with what is told of its corrections
abbrev pub with_notices : Configuration → ConfigAndWarnings
with_notices c = record { config = c; warnings = notices c.written }

-- the text is not too large, and is accepted as this configuration
pub record Configures (text : List ℕ) (c : Configuration) : Type 0 where
  pub few : length text ≤ most_config
  pub accepted : config_of text ≡ Ok (with_notices c)

-- what an operator is told of the corrections of the configuration: a line for each, in their order
abbrev pub warnings_of : Configuration → List ℕ
warnings_of c = flat_map notice_text (notices c.written)

-- the fault of a configuration that is refused so at that line, or at that place where it is no text
abbrev pub config_fault : ConfigRefusal → ℕ → ConfFault
config_fault NotText number = conf.NotText number
config_fault UnknownDirective number = conf.UnknownDirective number
config_fault BadValue number = conf.BadValue number
config_fault BadSection number = conf.BadSection number
config_fault Unclosed number = conf.Unclosed number
config_fault TooDeep number = conf.TooDeep number

-- the text is too large, which is a bad value at 0
pub record IsTooLong (text : List ℕ) (why : ConfigRefusal) (number : ℕ) : Type 0 where
  pub many : most_config < length text
  pub why_is : why ≡ BadValue
  pub number_is : number ≡ 0

-- the text is not too large, and is refused so
pub record IsRefused (text : List ℕ) (why : ConfigRefusal) (number : ℕ) : Type 0 where
  pub few : length text ≤ most_config
  pub refused : config_of text ≡ Err (config_fault why number)

-- the text is no configuration, and this is told of it
abbrev pub IsNoConfig : List ℕ → ConfigRefusal → ℕ → Type 0
IsNoConfig text why number = IsTooLong text why number ⊎ IsRefused text why number
