-- What a reader of heads finds in the bytes that it looks at: at most one more than a head may have.
use Rattle.std.specs.Prelude.{◌≡◌, ℕ, ◌+◌, ◌-◌, ◌<◌, ◌≤◌, ◌⊎◌, true, false, ◌||◌, List, ◌∷◌, ◌++◌, take, drop, length, nat_lt, Option, Some, None}
use Rattle.http_read.specs.declared.request.Limits.{Limits}
use Rattle.http_read.specs.declared.head_reader.HeadReader.{HeadReader}
use Rattle.http_read.specs.declared.head_reader.Extent.{Extent}
use Rattle.http_read.specs.declared.head_reader.Extent.TheVariants as extent
use Rattle.http_read.specs.declared.head_reader.Added.{Added}
use Rattle.http_read.specs.declared.head_reader.Added.TheVariants as added
use Rattle.http_read.specs.declared.head_reader.Noted.{Noted}
use Rattle.http_read.specs.HeadLines.{IsHeadLine, print_lines, line_len, BreaksLineLimit, IsUnended, IsHeadText}
use Rattle.http_read.specs.FieldLimit.{has_long_field}
use Rattle.http_read.specs.LookedAt.{version_at}
use Rattle.http_read.specs.Sizes.{greatest_head}

-- the lines of a head end behind n bytes of the window, and this is noted of them
pub record EndsIn (limits : Limits) (window : List ℕ) (n : ℕ) (noted : Noted) : Type 0 where
  pub fields : List (List ℕ)
  pub within : n ≤ length window
  pub fits : n ≤ greatest_head
  pub text : IsHeadText limits (take n window) fields
  pub long_is : noted.long ≡ has_long_field limits fields
  pub version_is : noted.version ≡ version_at (length (print_lines text.head_lines.blank)) text.head_lines.first

-- the window is full, and no head ends within the greatest size
pub record IsFullWindow (limits : Limits) (window : List ℕ) : Type 0 where
  pub some : length window ≡ greatest_head + 1
  pub unended : IsUnended limits window ⊎ ((fields : List (List ℕ)) × IsHeadText limits window fields)

-- what was found is there
abbrev pub LooksForEnd : Limits → List ℕ → Extent → Type 0
LooksForEnd limits window extent.LongLine = BreaksLineLimit limits window
LooksForEnd limits window extent.TooLarge = IsFullWindow limits window
LooksForEnd limits window extent.Unended = (length window ≤ greatest_head) × IsUnended limits window
LooksForEnd limits window (extent.Ends n noted) = EndsIn limits window n noted

-- what is noted behind a further field line, and behind the first line
abbrev pub noted_field : HeadReader → List ℕ → Noted
noted_field r line = record r.noted { long = r.noted.long || nat_lt r.limits.field (line_len line) }

abbrev pub noted_first : HeadReader → List ℕ → Noted
noted_first r line = record r.noted { version = version_at r.line line }

-- what a whole line does to the reader, before its places go on
abbrev pub AddsLine : HeadReader → List ℕ → Added → HeadReader → Type 0
AddsLine r line added.Ends r' = (line_len line ≡ 0) × (r.begun ≡ true) × (r' ≡ r)
AddsLine r line added.LongLine r' = (r.limits.line < line_len line) × (r.begun ≡ false) × (r' ≡ r)
AddsLine r line added.Goes r' =
    ((line_len line ≡ 0) × (r.begun ≡ false) × (r' ≡ r))
    ⊎ (((0 < line_len line) × (r.begun ≡ true) × (r' ≡ record r { noted = noted_field r line }))
    ⊎ ((0 < line_len line) × (line_len line ≤ r.limits.line) × (r.begun ≡ false) × (r' ≡ record r { begun = true; noted = noted_first r line })))

-- what is to be said where the bytes have no end of a head
abbrev pub SaysUnended : HeadReader → ℕ → Extent → Type 0
SaysUnended r len extent.LongLine = (r.begun ≡ false) × (r.limits.line + 2 ≤ len - r.line)
SaysUnended r len extent.TooLarge = (greatest_head < len) × (r.begun ≡ false → len - r.line < r.limits.line + 2)
SaysUnended r len extent.Unended = (len ≤ greatest_head) × (r.begun ≡ false → len - r.line < r.limits.line + 2)
SaysUnended r len (extent.Ends n noted) = ⊥

-- the first line feed stands behind a line and in front of these bytes
pub record FeedStands (bytes : List ℕ) (k : ℕ) : Type 0 where
  pub within : k < length bytes
  pub line : IsHeadLine (take k bytes)
  pub bytes_are : bytes ≡ take k bytes ++ 10 ∷ drop (k + 1) bytes

-- where the first line feed stands
abbrev pub IsFeedAt : List ℕ → Option ℕ → Type 0
IsFeedAt bytes (Some k) = FeedStands bytes k
IsFeedAt bytes None = IsHeadLine bytes
