-- The script that is played: its lines, and the configuration and the site of its first edition.
use Rattle.command_words.specs.Invocations.{IsLoadWords, IsScriptWords}
use Rattle.file_table.specs.Load.{IsWithinLimits}
use Rattle.file_table.specs.Site.{SeenSite, IsSiteOf}
use Rattle.mpm_base.specs.Store.{bytes_of}
use Rattle.mpm_base.specs.declared.script_line.ScriptLine.{ScriptLine}
use Rattle.mpm_config.specs.Config.{Configuration}
use Rattle.mpm_script.specs.Load.{load_lines}
use Rattle.mpm_script.specs.Script.{ScriptIs}
use Rattle.restart_control.specs.Reload.{order_of}
use Rattle.run_opening.specs.Calls.{Call, HasFile}
use Rattle.run_opening.specs.Sites.{IsSiteRefusedOf}
use Rattle.script_front.specs.Editions.{editions_of}
use Rattle.std.specs.Prelude.{◌≡◌, ℕ, ◌⊎◌, List, Ok, codes, Some}

-- the greatest size of a script, in bytes
abbrev pub most_script : ℕ
most_script = 67108864

-- the files of the store are as they were, and the script of that name has these bytes, which are not too many
abbrev pub HasScript : Call → List ℕ → List ℕ → Type 0
HasScript call name bytes = HasFile most_script call name bytes

-- the words have a script of the store played, and these are its lines
pub record ReadsScript (call : Call) (lines : List ScriptLine) : Type 0 where
  pub name : List ℕ
  pub bytes : List ℕ
  pub command : IsScriptWords call.words name
  pub has : HasScript call name bytes
  pub script : ScriptIs bytes (Ok lines)

-- the words have a load of so many connections played, and these are its lines; the store isn't asked for anything
pub record MakesLoad (call : Call) (lines : List ScriptLine) : Type 0 where
  pub count : ℕ
  pub command : IsLoadWords call.words count
  pub unasked : call.store' ≡ call.store
  pub lines_are : lines ≡ load_lines count

-- the words have these lines played
abbrev pub PlaysLines : Call → List ScriptLine → Type 0
PlaysLines call lines = ReadsScript call lines ⊎ MakesLoad call lines

-- the configuration of a script, as the first edition of its site has it, is this text
abbrev pub HasConfig : List ScriptLine → List ℕ → Type 0
HasConfig script text = bytes_of (codes "httpd.conf") (editions_of script).files ≡ Some text

-- the script's first edition has this site by the configuration, and its files are no more and no larger than a site may have
pub record HasScriptSite (script : List ScriptLine) (c : Configuration) (site : SeenSite) : Type 0 where
  pub is_site : IsSiteOf (order_of c) (editions_of script).files site
  pub within : IsWithinLimits site

-- so it is of the script's first edition
abbrev pub IsSiteRefused : List ScriptLine → Configuration → List ℕ → Type 0
IsSiteRefused script c name = IsSiteRefusedOf (editions_of script).files c name
