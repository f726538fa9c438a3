-- What the line of a directive sets.
use Rattle.std.specs.Prelude.{ℕ, List, [], ◌∷◌, Option, Some, None, option_map, if◌then◌else◌, Result, Ok, Err}
use Rattle.mpm_config.specs.declared.directive.Directive.{Directive}
use Rattle.mpm_config.specs.declared.directive.Directive.TheVariants.{Number, KeepAlive, Listen, ControlListen, DocumentRoot, DirectoryIndex, FileETag, LastModified, AddType, MimeTable, AddDefaultCharset, ServerStatus, ServerName, ServerAlias, TransferLog}
use Rattle.mpm_config.specs.declared.setting.Setting.{Setting}
use Rattle.mpm_config.specs.declared.setting.Setting.TheVariants as sets
use Rattle.mpm_config.specs.declared.setting.Wrong.{Wrong}
use Rattle.mpm_config.specs.declared.setting.Wrong.TheVariants.{Name, Value}
use Rattle.mpm_config.specs.Directive.{directive_of}
use Rattle.mpm_config.specs.HostName.{are_aliases, is_server_name}
use Rattle.mpm_config.specs.Range.{port_range}
use Rattle.mpm_config.specs.Value.{number, number_of, switch, tags_of_value, address, is_folder, is_file, is_log}
use Rattle.type_words.specs.TypeWords.{are_type_words, charset_of_value, table_of_value}
use Rattle.conf_text.specs.Words.{Word, Closed, words}

-- what a value sets, where the directive may have it
abbrev pub setting_of : Directive → List ℕ → Option Setting
setting_of (Number q) v = option_map (λ n. sets.Number q n) (number_of q v)
setting_of KeepAlive v = option_map (λ b. sets.KeepAlive b) (switch v)
setting_of Listen v = option_map (λ a. sets.Listen a) (address v)
setting_of ControlListen v = option_map (λ p. sets.ControlListen p) (number port_range v)
setting_of DocumentRoot v = if is_folder v then Some sets.DocumentRoot else None
setting_of DirectoryIndex v = if is_file v then Some sets.DirectoryIndex else None
setting_of FileETag v = option_map (λ b. sets.FileETag b) (tags_of_value v)
setting_of LastModified v = option_map (λ b. sets.LastModified b) (switch v)
setting_of AddType v = None
setting_of MimeTable v = option_map (λ b. sets.MimeTable b) (table_of_value v)
setting_of AddDefaultCharset v = option_map (λ b. sets.AddDefaultCharset b) (charset_of_value v)
setting_of ServerStatus v = option_map (λ b. sets.ServerStatus b) (switch v)
setting_of ServerName v = if is_server_name v then Some sets.ServerName else None
setting_of TransferLog v = if is_log v then Some sets.TransferLog else None
setting_of ServerAlias v = None

-- what the line of a directive does: it sets what the value spells, adds the words to the names of a host, or adds the pairs that they
-- spell to those of the types
pub data Assignment : Type 0 where
  Sets : Setting → List ℕ → Assignment
  AddsNames : List Word → Assignment
  AddsPairs : List Word → Assignment

-- what the value sets, or that the directive may not have it
abbrev pub assignment_of : List ℕ → Option Setting → Result Assignment Wrong
assignment_of v None = Err Value
assignment_of v (Some s) = Ok (Sets s v)

-- the words after the name of a directive: exactly one value
abbrev pub of_value : Directive → List Word → Result Assignment Wrong
of_value d (Closed v ∷ []) = assignment_of v (setting_of d v)
of_value d ws = Err Value

-- ServerAlias has one or more, AddType two or more
abbrev pub of_words : Directive → List Word → Result Assignment Wrong
of_words ServerAlias ws = if are_aliases ws then Ok (AddsNames ws) else Err Value
of_words AddType ws = if are_type_words ws then Ok (AddsPairs ws) else Err Value
of_words d ws = of_value d ws

-- the words after a name
abbrev pub of_name : Option Directive → List Word → Result Assignment Wrong
of_name None ws = Err Name
of_name (Some d) ws = of_words d ws

-- the words of the line of a directive: its name, then its value; a quote that isn't closed spells no name
abbrev pub meaning : List Word → Result Assignment Wrong
meaning (Closed name ∷ ws) = of_name (directive_of name) ws
meaning ws = Err Value

-- what the line of a directive sets
abbrev pub assignment : List ℕ → Result Assignment Wrong
assignment line = meaning (words line)
