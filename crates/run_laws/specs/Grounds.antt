-- What stands in the way of a run, or lets it open: what the words ask for, and what the files of a store that tells them are.
use Rattle.command_words.specs.Invocations.{IsLoadWords, IsScriptWords, IsSendWords, IsServeWords, IsTestWords, NamesConfig, NamesFile}
use Rattle.file_table.specs.Load.{IsWithinLimits}
use Rattle.file_table.specs.Site.{IsSiteOf, SeenSite}
use Rattle.mpm_base.specs.Store.{StoreTold, bytes_of}
use Rattle.mpm_base.specs.declared.script_line.CommandWord.{CommandWord}
use Rattle.mpm_base.specs.declared.script_line.ScriptLine.{ScriptLine}
use Rattle.mpm_config.specs.Config.{Configuration}
use Rattle.mpm_script.specs.Load.{load_lines}
use Rattle.mpm_script.specs.Script.{ScriptIs}
use Rattle.restart_control.specs.Reload.{order_of}
use Rattle.run_opening.specs.Calls.{Call}
use Rattle.run_opening.specs.Configured.{Configures, IsNoConfig}
use Rattle.run_opening.specs.Sites.{IsSiteRefusedOf}
use Rattle.run_report.specs.declared.texts.ConfigRefusal.{ConfigRefusal}
use Rattle.run_report.specs.declared.texts.ScriptRefusal.{ScriptRefusal}
use Rattle.script_run.specs.ScriptRefusals.{fault_at}
use Rattle.script_run.specs.Scripts.{HasConfig, HasScriptSite, IsSiteRefused, most_script}
use Rattle.std.specs.Prelude.{◌≡◌, ◌⊎◌, ℕ, ◌<◌, ◌≤◌, List, length, Some, None, Ok, Err}

-- ## Files

-- the store tells its files, and the first of that name has these bytes
pub record TellsFile (call : Call) (name bytes : List ℕ) : Type 0 where
  pub t : StoreTold
  pub told : call.store.told ≡ Some t
  pub found : bytes_of name t.files ≡ Some bytes

-- the store tells its files, and the words name one that isn't among them
pub record LacksNamed (call : Call) : Type 0 where
  pub name : List ℕ
  pub command : NamesFile call.words name
  pub t : StoreTold
  pub told : call.store.told ≡ Some t
  pub none : bytes_of name t.files ≡ None

-- ## A script

-- the words name a script that is too large
pub record HasLargeScript (call : Call) : Type 0 where
  pub name : List ℕ
  pub bytes : List ℕ
  pub command : IsScriptWords call.words name
  pub file : TellsFile call name bytes
  pub large : most_script < length bytes

-- they name one that is refused so at that line
pub record HasUnfitScript (call : Call) (why : ScriptRefusal) (line : ℕ) : Type 0 where
  pub name : List ℕ
  pub bytes : List ℕ
  pub command : IsScriptWords call.words name
  pub file : TellsFile call name bytes
  pub few : length bytes ≤ most_script
  pub refused : ScriptIs bytes (Err (fault_at why line))

-- they name one that has these lines
pub record HasFitScript (call : Call) (lines : List ScriptLine) : Type 0 where
  pub name : List ℕ
  pub bytes : List ℕ
  pub command : IsScriptWords call.words name
  pub file : TellsFile call name bytes
  pub few : length bytes ≤ most_script
  pub script : ScriptIs bytes (Ok lines)

-- they ask for a load, which has these lines
pub record AsksLoad (call : Call) (lines : List ScriptLine) : Type 0 where
  pub count : ℕ
  pub command : IsLoadWords call.words count
  pub lines_are : lines ≡ load_lines count

-- they ask for these lines to be played
abbrev pub AsksLines : Call → List ScriptLine → Type 0
AsksLines call lines = HasFitScript call lines ⊎ AsksLoad call lines

-- ## A configuration

-- the lines that are to be played write no configuration, for this and at that number
pub record WritesNoConfig (call : Call) (why : ConfigRefusal) (number : ℕ) : Type 0 where
  pub lines : List ScriptLine
  pub asks : AsksLines call lines
  pub text : List ℕ
  pub text_is : HasConfig lines text
  pub refused : IsNoConfig text why number

-- the words name a configuration that is none
pub record HasUnfitConfig (call : Call) (why : ConfigRefusal) (number : ℕ) : Type 0 where
  pub name : List ℕ
  pub bytes : List ℕ
  pub command : NamesConfig call.words name
  pub file : TellsFile call name bytes
  pub refused : IsNoConfig bytes why number

-- so it is of either
abbrev pub HasNoConfig : Call → ConfigRefusal → ℕ → Type 0
HasNoConfig call why number = WritesNoConfig call why number ⊎ HasUnfitConfig call why number

-- they name this configuration to serve by, and these are the files of the store
pub record ServesBy (call : Call) (c : Configuration) (t : StoreTold) : Type 0 where
  pub name : List ℕ
  pub bytes : List ℕ
  pub command : IsServeWords call.words name
  pub told : call.store.told ≡ Some t
  pub found : bytes_of name t.files ≡ Some bytes
  pub accepted : Configures bytes c

-- they name a configuration that is to be tested, and it is accepted
pub record TestsFit (call : Call) (c : Configuration) : Type 0 where
  pub name : List ℕ
  pub bytes : List ℕ
  pub command : IsTestWords call.words name
  pub file : TellsFile call name bytes
  pub accepted : Configures bytes c

-- they have the word sent to the server of this configuration
pub record SendsBy (call : Call) (word : CommandWord) (c : Configuration) : Type 0 where
  pub name : List ℕ
  pub bytes : List ℕ
  pub command : IsSendWords call.words word name
  pub file : TellsFile call name bytes
  pub accepted : Configures bytes c

-- ## A site

-- the lines that are to be played write this configuration
pub record WritesConfig (call : Call) (lines : List ScriptLine) (c : Configuration) : Type 0 where
  pub asks : AsksLines call lines
  pub text : List ℕ
  pub text_is : HasConfig lines text
  pub accepted : Configures text c

-- they write one by which they have no site within the limits of one
pub record WritesNoSite (call : Call) : Type 0 where
  pub lines : List ScriptLine
  pub config : Configuration
  pub writes : WritesConfig call lines config
  pub none : (site : SeenSite) → ¬ (HasScriptSite lines config site)

-- the words name one to serve by, by which the files of the store make none
pub record ServesNoSite (call : Call) : Type 0 where
  pub config : Configuration
  pub t : StoreTold
  pub serves : ServesBy call config t
  pub none : (site : SeenSite) → IsSiteOf (order_of config) t.files site → ¬ (IsWithinLimits site)

-- so it is of either
abbrev pub HasNoSite : Call → Type 0
HasNoSite call = WritesNoSite call ⊎ ServesNoSite call

-- the lines that are to be played write a configuration, and no file or folder of the site by it is too large
pub record WritesSite (call : Call) : Type 0 where
  pub lines : List ScriptLine
  pub config : Configuration
  pub writes : WritesConfig call lines config
  pub fits : (name : List ℕ) → ¬ (IsSiteRefused lines config name)

-- the words name a configuration to serve by, and no file or folder of the site that the store has by it is too large
pub record ServesSite (call : Call) : Type 0 where
  pub config : Configuration
  pub t : StoreTold
  pub serves : ServesBy call config t
  pub fits : (name : List ℕ) → ¬ (IsSiteRefusedOf t.files config name)
