-- The names of the files that the lines of a script set or remove.
use Rattle.std.specs.Prelude.{List, All, IsUtf8, ⊤}
use Rattle.mpm_base.specs.declared.script_line.SiteLine.{SiteLine}
use Rattle.mpm_base.specs.declared.script_line.SiteLine.TheVariants as site
use Rattle.mpm_base.specs.declared.script_line.ScriptLine.{ScriptLine}
use Rattle.mpm_base.specs.declared.script_line.ScriptLine.TheVariants as line

-- the file that the line of the site sets or removes, where it does, has a UTF-8 name
abbrev pub NamesText : SiteLine → Type 0
NamesText (site.Conf bytes) = ⊤
NamesText site.Clear = ⊤
NamesText (site.File name bytes) = IsUtf8 name
NamesText (site.Unfile name) = IsUtf8 name

-- the same of a line of a script
abbrev pub HasTextName : ScriptLine → Type 0
HasTextName (line.At m) = ⊤
HasTextName (line.Conn name) = ⊤
HasTextName (line.Client name act) = ⊤
HasTextName (line.Command word) = ⊤
HasTextName (line.Site site) = NamesText site

-- each file that the lines set or remove has a UTF-8 name
abbrev pub HaveTextNames : List ScriptLine → Type 0
HaveTextNames lines = All HasTextName lines
