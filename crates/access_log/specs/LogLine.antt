-- The lines of the access log, in the common log format: remote host, identity, user, time, request line, code and size.
-- Why it is so stands in docs/DECISIONS.md: 124, What the access log has of a request.
use Rattle.std.specs.Prelude.{ℕ, ◌==◌, List, [], ◌∷◌, ◌++◌, length, map, codes, if◌then◌else◌}
use Rattle.std.specs.List.{flat_map, join_with_byte}
use Rattle.std.specs.Fmt.{decimal}
use Rattle.access_log.specs.EscapedLine.{escaped}
use Rattle.access_log.specs.LogTime.{parts_at, time_text}

-- what a line tells of a response: the four numbers of the address of its client, its second since 1970, its code, the request line as
-- it came, cut to its limit, and the size of its body
pub record Logged : Type 0 where
  pub peer : List ℕ
  pub date : ℕ
  pub code : ℕ
  pub line : List ℕ
  pub size : ℕ

-- the numbers of an address in decimal, with points (46) between them
abbrev pub address_text : List ℕ → List ℕ
address_text peer = join_with_byte 46 (map decimal peer)

-- what stands between the quotes: the request line, escaped; for an empty one a hyphen
abbrev pub quoted_text : List ℕ → List ℕ
quoted_text line = if length line == 0 then codes "-" else escaped line

-- a size; for 0 a hyphen
abbrev pub size_text : ℕ → List ℕ
size_text size = if size == 0 then codes "-" else decimal size

-- a line without the line feed that ends it; neither the identity nor the user is known, and the time is that of UTC
abbrev pub line_text : Logged → List ℕ
line_text e =
    address_text e.peer ++ codes " - - [" ++ time_text (parts_at e.date) ++ codes " +0000] \"" ++ quoted_text e.line ++ codes "\" "
    ++ decimal e.code ++ codes " " ++ size_text e.size

-- a line with the line feed that ends it
abbrev pub log_line : Logged → List ℕ
log_line e = line_text e ++ 10 ∷ []

-- the lines of responses, one behind the other
abbrev pub log_text : List Logged → List ℕ
log_text entries = flat_map log_line entries
