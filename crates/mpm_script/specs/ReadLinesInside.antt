-- The lines of a script that were read, and the next one.
use Rattle.std.specs.Prelude.{◌≡◌, ℕ, suc, true, List, [], ◌∷◌, ◌++◌, length, ⊤}
use Rattle.mpm_script.specs.Clients.{names_of}
use Rattle.mpm_script.specs.Script.{BeginsFailing, BeginsWithLine, IsBadLine, agrees, is_backwards, is_repeated, is_unknown, moment_from}
use Rattle.mpm_script.specs.declared.read_lines.ReadLines.{ReadLines}
use Rattle.mpm_script.specs.declared.script.ScriptFault.{ScriptFault}
use Rattle.mpm_script.specs.declared.script.ScriptFault.TheVariants as fault
use Rattle.mpm_base.specs.declared.script_line.ScriptLine.{ScriptLine}

-- the names are those of the connections that the lines make, and the moment is the one behind them
pub record AreRead (read : ReadLines) : Type 0 where
  pub names : read.names ≡ names_of read.script
  pub moment : read.moment ≡ moment_from 0 read.script

-- the line of that number doesn't agree with those before it, for that reason
abbrev pub DisagreesAt : ℕ → List ScriptLine → ScriptLine → ScriptFault → Type 0
DisagreesAt number before line (fault.BadLine n) = (n ≡ number) × (is_repeated before line ≡ true)
DisagreesAt number before line (fault.MomentBackwards n) = (n ≡ number) × (is_backwards before line ≡ true)
DisagreesAt number before line (fault.UnknownName n) = (n ≡ number) × (is_unknown before line ≡ true)
DisagreesAt number before line fault.NoMemory = ⊤

-- the bytes begin with a line that agrees with those before it, and was put behind them; the rest stands behind it
pub record ReadsLine (bytes rest : List ℕ) (before lines : List ScriptLine) : Type 0 where
  pub line : ScriptLine
  pub begins : BeginsWithLine bytes line rest
  pub agreeing : agrees before line ≡ true
  pub put : lines ≡ before ++ line ∷ []

-- the bytes are refused so behind these lines, by the number of the line that they begin with
abbrev pub RefusesLine : List ScriptLine → List ℕ → ScriptFault → Type 0
RefusesLine before bytes (fault.BadLine n) = (n ≡ suc (length before)) × IsBadLine before bytes
RefusesLine before bytes (fault.MomentBackwards n) = (n ≡ suc (length before)) × BeginsFailing is_backwards before bytes
RefusesLine before bytes (fault.UnknownName n) = (n ≡ suc (length before)) × BeginsFailing is_unknown before bytes
RefusesLine before bytes fault.NoMemory = ⊤
