-- The lines of a script, without their line feeds: which text is which line. Words have one space between them.
-- Why it is so stands in docs/DECISIONS.md: 14, Lines of a script.
use Rattle.std.specs.Prelude.{◌≡◌, ℕ, ◌<◌, ◌≤◌, Bool, ◌||◌, ◌&&◌, nat_le, List, [], ◌++◌, length, codes, None, Some}
use Rattle.std.specs.Char.{is_ascii_lowercase, is_ascii_digit}
use Rattle.std.specs.List.{AllPass}
use Rattle.mpm_script.specs.Escapes.{Spells}
use Rattle.mpm_base.specs.CommandWord.{command_word}
use Rattle.mpm_base.specs.Digits.{number_in_digits}
use Rattle.mpm_base.specs.Moment.{greatest_moment}
use Rattle.mpm_base.specs.declared.script_line.LinkCall.{LinkCall}
use Rattle.mpm_base.specs.declared.script_line.LinkCall.TheVariants as call
use Rattle.mpm_base.specs.declared.script_line.ClientAct.{ClientAct}
use Rattle.mpm_base.specs.declared.script_line.ClientAct.TheVariants as act
use Rattle.mpm_base.specs.declared.script_line.SiteLine.{SiteLine}
use Rattle.mpm_base.specs.declared.script_line.SiteLine.TheVariants as site
use Rattle.mpm_base.specs.declared.script_line.ScriptLine.{ScriptLine}
use Rattle.mpm_base.specs.declared.script_line.ScriptLine.TheVariants as line

-- ## Words

-- a byte of a connection's name
abbrev pub is_name_byte : ℕ → Bool
is_name_byte b = is_ascii_lowercase b || is_ascii_digit b

-- NAME: 1 to 16 such bytes
pub record IsName (name : List ℕ) : Type 0 where
  pub some : 0 < length name
  pub fits : length name ≤ 16
  pub bytes : AllPass is_name_byte name

-- a byte of a file's name: 33 to 126
abbrev pub is_file_byte : ℕ → Bool
is_file_byte b = nat_le 33 b && nat_le b 126

-- FILE: 1 to 255 such bytes
pub record IsFileName (name : List ℕ) : Type 0 where
  pub some : 0 < length name
  pub fits : length name ≤ 255
  pub bytes : AllPass is_file_byte name

-- NUMBER: 1 to 15 decimal digits, of which the first ones may be zeros, and their value
abbrev pub IsNumber : List ℕ → ℕ → Type 0
IsNumber digits n = number_in_digits 15 digits ≡ Some n

-- ## What happens to a link

-- the word of the line
abbrev pub act_word : ClientAct → List ℕ
act_word (act.Send bytes) = codes "send "
act_word act.End = codes "end "
act_word act.Drop = codes "drop "
act_word (act.Room room) = codes "room "
act_word (act.Fail which number) = codes "fail "

-- the words before the number of the call that fails
abbrev pub call_words : LinkCall → List ℕ
call_words call.Read = codes " read "
call_words call.Write = codes " write "

-- what stands behind the name
abbrev pub IsBehindName : ClientAct → List ℕ → Type 0
IsBehindName (act.Send bytes) text = (spelling : List ℕ) × (text ≡ codes " " ++ spelling) × Spells spelling bytes
IsBehindName act.End text = text ≡ []
IsBehindName act.Drop text = text ≡ []
IsBehindName (act.Room None) text = text ≡ codes " all"
IsBehindName (act.Room (Some n)) text = (digits : List ℕ) × (text ≡ codes " " ++ digits) × IsNumber digits n
IsBehindName (act.Fail which n) text = (digits : List ℕ) × (text ≡ call_words which ++ digits) × IsNumber digits n

-- ## What happens to the site

-- the text is that line of the site
abbrev pub IsSiteLine : List ℕ → SiteLine → Type 0
IsSiteLine text (site.Conf bytes) = (spelling : List ℕ) × (text ≡ codes "conf " ++ spelling) × Spells spelling bytes
IsSiteLine text site.Clear = text ≡ codes "clear"
IsSiteLine text (site.File name bytes) =
    (spelling : List ℕ) × (text ≡ codes "file " ++ (name ++ (codes " " ++ spelling))) × IsFileName name × Spells spelling bytes
IsSiteLine text (site.Unfile name) = (text ≡ codes "unfile " ++ name) × IsFileName name

-- ## Lines

-- the text is that line
abbrev pub IsLine : List ℕ → ScriptLine → Type 0
IsLine text (line.At m) = (digits : List ℕ) × (text ≡ codes "at " ++ digits) × IsNumber digits m × (m ≤ greatest_moment)
IsLine text (line.Conn name) = (text ≡ codes "conn " ++ name) × IsName name
IsLine text (line.Client name act) =
    (behind : List ℕ) × (text ≡ act_word act ++ (name ++ behind)) × IsName name × IsBehindName act behind
IsLine text (line.Command word) = text ≡ codes "command " ++ command_word word
IsLine text (line.Site site) = IsSiteLine text site
