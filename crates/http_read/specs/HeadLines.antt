-- The lines of a head (RFC 9112, sections 2.1 and 2.2): empty lines that are skipped, the first line, the field lines, and
-- the empty line that ends it.
-- Why it is so stands in docs/DECISIONS.md: 21, What a head is.
use Rattle.std.specs.Prelude.{◌≡◌, ℕ, ◌+◌, ◌-◌, ◌<◌, ◌≤◌, ◌⊎◌, List, [], ◌∷◌, ◌++◌, length, get_or, All, IsFalse, if◌then◌else◌, ◌==◌}
use Rattle.http_read.specs.declared.request.Limits.{Limits}

-- no byte of the line is a line feed
abbrev pub IsHeadLine : List ℕ → Type 0
IsHeadLine line = All (λ b. IsFalse (b == 10)) line

-- the bytes of lines, each with the line feed that ends it
abbrev pub print_lines : List (List ℕ) → List ℕ
print_lines [] = []
print_lines (line ∷ lines) = line ++ 10 ∷ print_lines lines

-- how many bytes the line has without a CR at its end
abbrev pub line_len : List ℕ → ℕ
line_len line = if get_or line (length line - 1) 0 == 13 then length line - 1 else length line

-- an empty line: nothing or a CR stands before its line feed
pub record IsEmptyLine (line : List ℕ) : Type 0 where
  pub is_line : IsHeadLine line
  pub empty : line_len line ≡ 0

-- a line that isn't empty
pub record IsFilledLine (line : List ℕ) : Type 0 where
  pub is_line : IsHeadLine line
  pub filled : 0 < line_len line

-- the lines are empty lines, a first line that fits its limit, and these field lines, none of them empty
pub record AreHeadLines (limits : Limits) (lines fields : List (List ℕ)) : Type 0 where
  pub blank : List (List ℕ)
  pub first : List ℕ
  pub blank_lines : All IsEmptyLine blank
  pub first_line : IsFilledLine first
  pub first_fits : line_len first ≤ limits.line
  pub field_lines : All IsFilledLine fields
  pub lines_are : lines ≡ blank ++ first ∷ fields

-- the first line is whole, and longer than its limit
pub record HasLongLine (limits : Limits) (bytes : List ℕ) : Type 0 where
  pub blank : List (List ℕ)
  pub first : List ℕ
  pub behind : List ℕ
  pub blank_lines : All IsEmptyLine blank
  pub first_line : IsHeadLine first
  pub long : limits.line < line_len first
  pub bytes_are : bytes ≡ print_lines blank ++ (first ++ 10 ∷ behind)

-- the first line isn't whole, and can't fit its limit any more, as two bytes more than the limit are there
pub record HasLongFront (limits : Limits) (bytes : List ℕ) : Type 0 where
  pub blank : List (List ℕ)
  pub front : List ℕ
  pub blank_lines : All IsEmptyLine blank
  pub front_line : IsHeadLine front
  pub long : limits.line + 2 ≤ length front
  pub bytes_are : bytes ≡ print_lines blank ++ front

-- the first line is too long, whether it is whole or not
abbrev pub BreaksLineLimit : Limits → List ℕ → Type 0
BreaksLineLimit limits bytes = HasLongLine limits bytes ⊎ HasLongFront limits bytes

-- the first line isn't whole yet, and fewer than two bytes more than its limit are there
pub record WaitsForFirstLine (limits : Limits) (bytes : List ℕ) : Type 0 where
  pub blank : List (List ℕ)
  pub front : List ℕ
  pub blank_lines : All IsEmptyLine blank
  pub front_line : IsHeadLine front
  pub short : length front < limits.line + 2
  pub bytes_are : bytes ≡ print_lines blank ++ front

-- the first line is whole and fits its limit, and the empty line that ends the head isn't there yet
pub record WaitsForEmptyLine (limits : Limits) (bytes : List ℕ) : Type 0 where
  pub lines : List (List ℕ)
  pub fields : List (List ℕ)
  pub front : List ℕ
  pub head_lines : AreHeadLines limits lines fields
  pub front_line : IsHeadLine front
  pub bytes_are : bytes ≡ print_lines lines ++ front

-- the bytes have no end of a head, and their first line is whole and within its limit, or has fewer than two bytes more so far
abbrev pub IsUnended : Limits → List ℕ → Type 0
IsUnended limits bytes = WaitsForFirstLine limits bytes ⊎ WaitsForEmptyLine limits bytes

-- the text is the lines of a head with these field lines, up to the empty line that ends it
pub record IsHeadText (limits : Limits) (text : List ℕ) (fields : List (List ℕ)) : Type 0 where
  pub lines : List (List ℕ)
  pub end : List ℕ
  pub head_lines : AreHeadLines limits lines fields
  pub end_line : IsEmptyLine end
  pub text_is : text ≡ print_lines lines ++ (end ++ 10 ∷ [])
