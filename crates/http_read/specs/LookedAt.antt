-- How far a reader of heads has looked.
use Rattle.std.specs.Prelude.{◌≡◌, ℕ, ◌+◌, ◌-◌, ◌≤◌, Bool, true, false, List, ◌++◌, length, All, if◌then◌else◌}
use Rattle.http_read.specs.declared.request.Limits.{Limits}
use Rattle.http_read.specs.declared.head_reader.HeadReader.{HeadReader}
use Rattle.http_read.specs.declared.head_reader.Noted.{Noted}
use Rattle.http_read.specs.declared.version.Version.{Version}
use Rattle.http_read.specs.declared.version.Version.TheVariants as version
use Rattle.http_read.specs.HeadLines.{IsHeadLine, print_lines, line_len, IsEmptyLine, AreHeadLines}
use Rattle.http_read.specs.FieldLimit.{has_long_field}
use Rattle.http_read.specs.Versions.{names_other_major, names_later_minor}
use Rattle.http_read.specs.Sizes.{greatest_head}

-- how the version of a first line is read, which has so many bytes before it
abbrev pub version_at : ℕ → List ℕ → Version
version_at before line =
    if names_other_major line then version.Other
    else (if names_later_minor line then version.Later (before + (line_len line - 1)) else version.Written)

-- the whole lines are those of a head whose first line fits its limit, and this is noted of them
pub record HasBegun (limits : Limits) (lines : List (List ℕ)) (noted : Noted) : Type 0 where
  pub fields : List (List ℕ)
  pub head_lines : AreHeadLines limits lines fields
  pub long_is : noted.long ≡ has_long_field limits fields
  pub version_is : noted.version ≡ version_at (length (print_lines head_lines.blank)) head_lines.first

-- the whole lines are empty lines before the first line
pub record HasNotBegun (lines : List (List ℕ)) (noted : Noted) : Type 0 where
  pub blank_lines : All IsEmptyLine lines
  pub long_is : noted.long ≡ false

-- whether the first line is whole
abbrev pub IsStage : Limits → List (List ℕ) → Bool → Noted → Type 0
IsStage limits lines true noted = HasBegun limits lines noted
IsStage limits lines false noted = HasNotBegun lines noted

-- the reader has looked at these bytes, and they have no end of a head
pub record HasLookedAt (seen : List ℕ) (r : HeadReader) : Type 0 where
  pub lines : List (List ℕ)
  pub front : List ℕ
  pub front_line : IsHeadLine front
  pub seen_is : seen ≡ print_lines lines ++ front
  pub line_is : r.line ≡ length (print_lines lines)
  pub looked_is : r.looked ≡ length seen
  pub small : length seen ≤ greatest_head + 1
  pub stage : IsStage r.limits lines r.begun r.noted
