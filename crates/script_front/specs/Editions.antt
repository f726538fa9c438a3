-- The editions of a script's site: its files at the opening, and at each `command graceful`. One file is always there, that of the
-- configuration.
use Rattle.std.specs.Prelude.{ℕ, Bool, true, false, ◌++◌, List, [], ◌∷◌, codes, bytes_eq, if◌then◌else◌}
use Rattle.std.specs.List.{flat_map, fold, take_while}
use Rattle.mpm_base.specs.Moment.{second_of}
use Rattle.mpm_base.specs.Store.{StoreTold}
use Rattle.mpm_base.specs.declared.store.Content.{Content}
use Rattle.mpm_base.specs.declared.store.File.{File}
use Rattle.mpm_base.specs.declared.script_line.CommandWord.TheVariants as word
use Rattle.mpm_base.specs.declared.script_line.SiteLine.{SiteLine}
use Rattle.mpm_base.specs.declared.script_line.SiteLine.TheVariants as site
use Rattle.mpm_base.specs.declared.script_line.ScriptLine.{ScriptLine}
use Rattle.mpm_base.specs.declared.script_line.ScriptLine.TheVariants as line
use Rattle.stand_ins.specs.Files.{with_file, without_file}
use Rattle.stand_ins.specs.PlainStore.{SeenStore, no_store_counts}

-- ## What the lines of the site leave

-- the line of the site, where the line is one
abbrev pub site_in : ScriptLine → List SiteLine
site_in (line.At m) = []
site_in (line.Conn name) = []
site_in (line.Client name act) = []
site_in (line.Command word) = []
site_in (line.Site site) = site ∷ []

-- those among the lines, in order
abbrev pub site_lines : List ScriptLine → List SiteLine
site_lines lines = flat_map site_in lines

-- the name of the configuration's file
abbrev pub conf_name : List ℕ
conf_name = codes "httpd.conf"

-- the name is that of the configuration's file
abbrev pub is_conf_name : List ℕ → Bool
is_conf_name name = bytes_eq conf_name name

-- the configuration once such a line happened: `conf` puts its text at the end, and a line feed, which is 10; `clear` empties it; and
-- the lines that set and remove a file of its name set and empty it
abbrev pub conf_after : List ℕ → SiteLine → List ℕ
conf_after conf (site.Conf text) = conf ++ (text ++ 10 ∷ [])
conf_after conf site.Clear = []
conf_after conf (site.File name bytes) = if is_conf_name name then bytes else conf
conf_after conf (site.Unfile name) = if is_conf_name name then [] else conf

-- what a file has that a line sets at a moment: it was changed in the second of that moment
abbrev pub set_at : ℕ → List ℕ → Content
set_at moment bytes = record { bytes = bytes; second = second_of moment }

-- the other files once such a line happened at a moment
abbrev pub files_after : ℕ → List File → SiteLine → List File
files_after moment files (site.Conf text) = files
files_after moment files site.Clear = files
files_after moment files (site.File name bytes) = if is_conf_name name then files else with_file name (set_at moment bytes) files
files_after moment files (site.Unfile name) = if is_conf_name name then files else without_file name files

-- the moment that lines came to, and the files other than that of the configuration
pub record Filed : Type 0 where
  pub moment : ℕ
  pub files : List File

-- the same once a line happened
abbrev pub after_line : Filed → ScriptLine → Filed
after_line f (line.At moment) = record f { moment = moment }
after_line f (line.Conn name) = f
after_line f (line.Client name act) = f
after_line f (line.Command word) = f
after_line f (line.Site site) = record f { files = files_after f.moment f.files site }

-- the configuration that the lines leave, which is empty at first
abbrev pub conf_of : List ScriptLine → List ℕ
conf_of lines = fold conf_after [] (site_lines lines)

-- what they leave of the other files, of which there is none at first; lines before the first `at` happen at the moment 0
abbrev pub filed_by : List ScriptLine → Filed
filed_by lines = fold after_line (record { moment = 0; files = [] }) lines

-- the configuration's file with these bytes; when it was changed isn't told
abbrev pub conf_file : List ℕ → File
conf_file bytes = record { name = conf_name; bytes = bytes; second = 0 }

-- ## The editions

-- all files that the lines leave: that of the configuration, which is always there, and the others
abbrev pub edition_of : List ScriptLine → List File
edition_of lines = conf_file (conf_of lines) ∷ (filed_by lines).files

-- the line is one of the site
abbrev pub is_site : ScriptLine → Bool
is_site (line.At m) = false
is_site (line.Conn name) = false
is_site (line.Client name act) = false
is_site (line.Command word) = false
is_site (line.Site site) = true

-- the lines of the site before the first other line
abbrev pub opening_lines : List ScriptLine → List ScriptLine
opening_lines lines = take_while is_site lines

-- the line is `command graceful`
abbrev pub is_graceful : ScriptLine → Bool
is_graceful (line.At m) = false
is_graceful (line.Conn name) = false
is_graceful (line.Client name act) = false
is_graceful (line.Command word.Graceful) = true
is_graceful (line.Command word.GracefulStop) = false
is_graceful (line.Command word.Stop) = false
is_graceful (line.Command word.Status) = false
is_graceful (line.Site site) = false

-- for each `command graceful` of the lines, which stand behind the others, the files that all lines before it leave
abbrev pub editions_behind : List ScriptLine → List ScriptLine → List (List File)
editions_behind before [] = []
editions_behind before (line ∷ lines) =
    if is_graceful line then edition_of before ∷ editions_behind (before ++ line ∷ []) lines else editions_behind (before ++ line ∷ []) lines

-- what the store of a script tells: the files that the lines of the site before all others leave, and then those of each
-- `command graceful`
abbrev pub editions_of : List ScriptLine → StoreTold
editions_of lines = record { files = edition_of (opening_lines lines); later = editions_behind [] lines }

-- the store of a script, none of whose calls fails
abbrev pub store_of : List ScriptLine → SeenStore
store_of lines = record { told = editions_of lines; counts = no_store_counts }
