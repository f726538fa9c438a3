-- A script: lines, each ended by a line feed, which is 10; and why bytes are none.
use Rattle.std.specs.Prelude.{◌≡◌, ℕ, suc, ◌<◌, Bool, true, false, ◌||◌, not, ◌==◌, nat_lt, List, [], ◌∷◌, ◌++◌, length, bytes_eq, Result, Ok, Err, ⊤}
use Rattle.std.specs.List.{AllPass, list_any}
use Rattle.mpm_script.specs.ScriptLine.{IsLine}
use Rattle.mpm_script.specs.declared.script.ScriptFault.{ScriptFault}
use Rattle.mpm_script.specs.declared.script.ScriptFault.TheVariants as fault
use Rattle.mpm_base.specs.declared.script_line.ScriptLine.{ScriptLine}
use Rattle.mpm_base.specs.declared.script_line.ScriptLine.TheVariants as line

-- ## The lines of the bytes

-- a byte of a line: any but the line feed
abbrev pub is_line_byte : ℕ → Bool
is_line_byte b = not (b == 10)

-- the bytes are that text, its line feed, and then the rest
pub record Begins (bytes text rest : List ℕ) : Type 0 where
  pub one_line : AllPass is_line_byte text
  pub whole : bytes ≡ text ++ 10 ∷ rest

-- the bytes begin with that line, and the rest stands behind it
pub record BeginsWithLine (bytes : List ℕ) (line : ScriptLine) (rest : List ℕ) : Type 0 where
  pub text : List ℕ
  pub begins : Begins bytes text rest
  pub is_line : IsLine text line

-- the bytes are these lines, one behind the other, and then the rest
abbrev pub AreLines : List ℕ → List ScriptLine → List ℕ → Type 0
AreLines bytes [] rest = bytes ≡ rest
AreLines bytes (line ∷ lines) rest = (behind : List ℕ) × BeginsWithLine bytes line behind × AreLines behind lines rest

-- ## What a line has to agree with

-- the line makes the connection of that name
abbrev pub makes : List ℕ → ScriptLine → Bool
makes name (line.At m) = false
makes name (line.Conn other) = bytes_eq other name
makes name (line.Client other act) = false
makes name (line.Command word) = false
makes name (line.Site site) = false

-- one of the lines does
abbrev pub has_conn : List ℕ → List ScriptLine → Bool
has_conn name lines = list_any (makes name) lines

-- the moment after the lines, which begin at that moment
abbrev pub moment_from : ℕ → List ScriptLine → ℕ
moment_from m [] = m
moment_from m (line.At later ∷ lines) = moment_from later lines
moment_from m (line.Conn name ∷ lines) = moment_from m lines
moment_from m (line.Client name act ∷ lines) = moment_from m lines
moment_from m (line.Command word ∷ lines) = moment_from m lines
moment_from m (line.Site site ∷ lines) = moment_from m lines

-- the line makes a connection whose name was used
abbrev pub is_repeated : List ScriptLine → ScriptLine → Bool
is_repeated before (line.At m) = false
is_repeated before (line.Conn name) = has_conn name before
is_repeated before (line.Client name act) = false
is_repeated before (line.Command word) = false
is_repeated before (line.Site site) = false

-- the line goes back to an earlier moment
abbrev pub is_backwards : List ScriptLine → ScriptLine → Bool
is_backwards before (line.At m) = nat_lt m (moment_from 0 before)
is_backwards before (line.Conn name) = false
is_backwards before (line.Client name act) = false
is_backwards before (line.Command word) = false
is_backwards before (line.Site site) = false

-- the line names a connection that no earlier line makes
abbrev pub is_unknown : List ScriptLine → ScriptLine → Bool
is_unknown before (line.At m) = false
is_unknown before (line.Conn name) = false
is_unknown before (line.Client name act) = not (has_conn name before)
is_unknown before (line.Command word) = false
is_unknown before (line.Site site) = false

-- the line agrees with those before it
abbrev pub agrees : List ScriptLine → ScriptLine → Bool
agrees before line = not (is_repeated before line || is_backwards before line || is_unknown before line)

-- so does each of the lines, which stand behind the others
abbrev pub AllAgree : List ScriptLine → List ScriptLine → Type 0
AllAgree before [] = ⊤
AllAgree before (line ∷ lines) = (agrees before line ≡ true) × AllAgree (before ++ line ∷ []) lines

-- the bytes are a script of these lines
pub record IsScript (bytes : List ℕ) (lines : List ScriptLine) : Type 0 where
  pub are_lines : AreLines bytes lines []
  pub agree : AllAgree [] lines

-- ## Refusals

-- the bytes begin with good lines, and the line behind them, which has this number from 1, is refused for what is said of
-- the lines before it and of the bytes from it on
pub record IsRefusedAt (bytes : List ℕ) (number : ℕ) (For : List ScriptLine → List ℕ → Type 0) : Type 0 where
  pub lines : List ScriptLine
  pub rest : List ℕ
  pub are_lines : AreLines bytes lines rest
  pub agree : AllAgree [] lines
  pub number_is : number ≡ suc (length lines)
  pub refused_for : For lines rest

-- more bytes come, and don't begin with a line, but for one that uses a name again
pub record IsBadLine (before : List ScriptLine) (rest : List ℕ) : Type 0 where
  pub some : 0 < length rest
  pub no_line : (line : ScriptLine) (behind : List ℕ) → BeginsWithLine rest line behind → is_repeated before line ≡ true

-- the bytes begin with a line that fails the test
pub record BeginsFailing (fails : List ScriptLine → ScriptLine → Bool) (before : List ScriptLine) (rest : List ℕ) : Type 0 where
  pub line : ScriptLine
  pub behind : List ℕ
  pub begins : BeginsWithLine rest line behind
  pub failing : fails before line ≡ true

-- ## The answer

-- the answer says what the bytes are
abbrev pub ScriptIs : List ℕ → Result (List ScriptLine) ScriptFault → Type 0
ScriptIs bytes (Ok script) = IsScript bytes script
ScriptIs bytes (Err (fault.BadLine n)) = IsRefusedAt bytes n IsBadLine
ScriptIs bytes (Err (fault.MomentBackwards n)) = IsRefusedAt bytes n (BeginsFailing is_backwards)
ScriptIs bytes (Err (fault.UnknownName n)) = IsRefusedAt bytes n (BeginsFailing is_unknown)
ScriptIs bytes (Err fault.NoMemory) = ⊤

-- the answer isn't that memory lacked
abbrev pub IsSureAnswer : Result (List ScriptLine) ScriptFault → Type 0
IsSureAnswer (Ok script) = ⊤
IsSureAnswer (Err (fault.BadLine n)) = ⊤
IsSureAnswer (Err (fault.MomentBackwards n)) = ⊤
IsSureAnswer (Err (fault.UnknownName n)) = ⊤
IsSureAnswer (Err fault.NoMemory) = ⊥
