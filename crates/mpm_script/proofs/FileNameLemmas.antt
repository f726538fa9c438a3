-- The names of files in the lines of a script are bytes of ASCII.
use Rattle.std.proofs.Common.{◌≡◌, ℕ, zero, suc, ◌<◌, true, List, [], ◌∷◌, arith}
use Rattle.std.specs.Prelude.{IsUtf8, slice_index}
use Rattle.std.specs.List.{AllByRecursion}
use Rattle.std.proofs.lemmas.Bool.Decides.{nat_tests}
use Rattle.std.proofs.lemmas.List.Elements.{All-weaker, All-from_recursion, recursion_from_All}
use Rattle.std.proofs.lemmas.Str.{IsUtf8-from_ascii}
use Rattle.mpm_script.specs.FileNames.{NamesText, HasTextName, HaveTextNames}
use Rattle.mpm_script.specs.Script.{AreLines}
use Rattle.mpm_script.specs.ScriptLine.{is_file_byte, IsFileName, IsSiteLine, IsLine}
use Rattle.mpm_base.specs.declared.script_line.SiteLine.{SiteLine}
use Rattle.mpm_base.specs.declared.script_line.SiteLine.TheVariants as site
use Rattle.mpm_base.specs.declared.script_line.ScriptLine.{ScriptLine}
use Rattle.mpm_base.specs.declared.script_line.ScriptLine.TheVariants as line

ascii_byte : (b : ℕ) → is_file_byte b ≡ true → b < 128
ascii_byte b h = grind (arith, nat_tests)

ascii_at : (bs : List ℕ) → AllByRecursion (λ b. b < 128) bs → (i : ℕ) → slice_index bs i < 128
ascii_at [] all i = omega arith
ascii_at (b ∷ bs) all zero = all.0
ascii_at (b ∷ bs) all (suc i) = ascii_at bs all.1 i

text_name : (name : List ℕ) → IsFileName name → IsUtf8 name
text_name name is =
    IsUtf8-from_ascii name (ascii_at name (recursion_from_All (λ b. b < 128) name (All-weaker (λ b. is_file_byte b ≡ true) (λ b. b < 128) ascii_byte name is.bytes)))

site_named : (text : List ℕ) (site : SiteLine) → IsSiteLine text site → NamesText site
site_named text (site.Conf bytes) is = tt
site_named text site.Clear is = tt
site_named text (site.File name bytes) is = text_name name is.2
site_named text (site.Unfile name) is = text_name name is.1

line_named : (text : List ℕ) (line : ScriptLine) → IsLine text line → HasTextName line
line_named text (line.At m) is = tt
line_named text (line.Conn name) is = tt
line_named text (line.Client name act) is = tt
line_named text (line.Command word) is = tt
line_named text (line.Site site) is = site_named text site is

lines_named : (bytes : List ℕ) (lines : List ScriptLine) (rest : List ℕ) → AreLines bytes lines rest → AllByRecursion HasTextName lines
lines_named bytes [] rest are = tt
lines_named bytes (line ∷ lines) rest are =
    (line_named are.1.text line are.1.is_line, lines_named are.0 lines rest are.2)

-- each file that the lines of a script set or remove has a UTF-8 name
pub script_named : (bytes : List ℕ) (lines : List ScriptLine) (rest : List ℕ) → AreLines bytes lines rest → HaveTextNames lines
script_named bytes lines rest are = All-from_recursion HasTextName lines (lines_named bytes lines rest are)
