-- The commands of a script, and the command lines that they bring.
use Rattle.std.specs.Prelude.{ℕ, List, [], ◌∷◌, map}
use Rattle.std.specs.List.{flat_map}
use Rattle.mpm_base.specs.CommandWord.{command_word}
use Rattle.mpm_base.specs.declared.script_line.CommandWord.{CommandWord}
use Rattle.mpm_base.specs.declared.script_line.ScriptLine.{ScriptLine}
use Rattle.mpm_base.specs.declared.script_line.ScriptLine.TheVariants as line

-- the command of the line, where it is one
abbrev pub command_in : ScriptLine → List CommandWord
command_in (line.At m) = []
command_in (line.Conn name) = []
command_in (line.Client name act) = []
command_in (line.Command word) = word ∷ []
command_in (line.Site site) = []

-- the commands of the lines, in order
abbrev pub commands_of : List ScriptLine → List CommandWord
commands_of lines = flat_map command_in lines

-- the command lines that they bring: their words, in order
abbrev pub command_lines_of : List ScriptLine → List (List ℕ)
command_lines_of lines = map command_word (commands_of lines)
