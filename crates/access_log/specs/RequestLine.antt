-- The request line of what a connection received (RFC 9112, section 3), as a log has it: of the head that stands at the front of the
-- bytes, behind the empty lines that are skipped (section 2.2), and cut to its limit.
-- Why it is so stands in docs/DECISIONS.md: 124, What the access log has of a request.
use Rattle.std.specs.Prelude.{ℕ, ◌==◌, Bool, List, [], ◌∷◌, take, if◌then◌else◌}
use Rattle.std.specs.List.{slice_split}
use Rattle.http_read.specs.HeadLines.{line_len}
use Rattle.http_read.specs.Head.{head_window}

-- the byte that ends a line
abbrev pub is_feed : ℕ → Bool
is_feed b = b == 10

-- the lines of the bytes, each without its line feed; the last one is what no line feed ends, and may be nothing
abbrev pub lines_of : List ℕ → List (List ℕ)
lines_of bytes = slice_split is_feed bytes

-- the first of the lines that isn't empty, without its CR; where each whole line is empty, the last one as it is
abbrev pub first_filled : List (List ℕ) → List ℕ
first_filled [] = []
first_filled (rest ∷ []) = rest
first_filled (line ∷ next ∷ lines) = if line_len line == 0 then first_filled (next ∷ lines) else take (line_len line) line

-- the request line of the head at the front of the bytes, of which so many bytes are kept; of a head whose first line isn't whole, what
-- is there of it
abbrev pub request_line : ℕ → List ℕ → List ℕ
request_line limit bytes = take limit (first_filled (lines_of (head_window bytes)))
