-- The version in the first line of a head (RFC 9112, section 2.3), and how it is read (RFC 9110, section 2.5).
use Rattle.std.specs.Prelude.{ℕ, ◌-◌, ◌==◌, ◌&&◌, nat_lt, Bool, not, List, [], ◌∷◌, ◌++◌, take, drop, slice_index, slice_set, codes, if◌then◌else◌}
use Rattle.std.specs.Char.{is_ascii_digit}
use Rattle.std.specs.Str.{bytes_eq}
use Rattle.http_read.specs.declared.request.Limits.{Limits}
use Rattle.http_read.specs.HeadLines.{print_lines, line_len, IsHeadText}

-- the last nine bytes of a line, its CR not counted, and that CR
abbrev pub line_tail : List ℕ → List ℕ
line_tail line = drop (line_len line - 9) line

-- a version with a space before it: HTTP/, and one digit on each side of a point (46)
abbrev pub is_version : List ℕ → Bool
is_version tail =
    bytes_eq (take 6 tail) (codes " HTTP/") && is_ascii_digit (slice_index tail 6)
    && slice_index tail 7 == 46 && is_ascii_digit (slice_index tail 8)

-- the first line ends in a version whose first digit isn't 1 (49)
unfoldable pub names_other_major : List ℕ → Bool
names_other_major line = is_version (line_tail line) && not (slice_index (line_tail line) 6 == 49)

-- the first line ends in one of the versions 1.2 to 1.9
unfoldable pub names_later_minor : List ℕ → Bool
names_later_minor line =
    is_version (line_tail line) && slice_index (line_tail line) 6 == 49 && nat_lt 49 (slice_index (line_tail line) 8)

-- the line with 1 as its last byte, a CR not counted
abbrev pub with_minor_one : List ℕ → List ℕ
with_minor_one line = slice_set line (line_len line - 1) 49

-- the first line as it is read: the versions 1.2 to 1.9 as 1.1
unfoldable pub line_as_read : List ℕ → List ℕ
line_as_read line = if names_later_minor line then with_minor_one line else line

-- the text of a head with its first line as it is read
unfoldable pub text_as_read : {limits : Limits} {text : List ℕ} {fields : List (List ℕ)} → IsHeadText limits text fields → List ℕ
text_as_read {fields = fields} h =
    print_lines (h.head_lines.blank ++ line_as_read h.head_lines.first ∷ fields) ++ (h.end ++ 10 ∷ [])
