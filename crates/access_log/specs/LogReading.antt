-- How a line of the common log format is read, and what is read of the lines of the access log.
use Rattle.std.specs.Prelude.{◌≡◌, ◌≢◌, ℕ, ◌+◌, ◌*◌, ◌==◌, ◌&&◌, List, [], ◌∷◌, ◌++◌, take, drop, codes, Option, Some, None, option_map, if◌then◌else◌}
use Rattle.std.specs.List.{before_first, after_first}
use Rattle.std.specs.Fmt.{decimal}
use Rattle.std.specs.Char.{digit_value, is_digit}
use Rattle.access_log.specs.EscapedLine.{is_marked}
use Rattle.access_log.specs.LogTime.{parts_at, time_text}
use Rattle.access_log.specs.LogLine.{Logged, address_text, quoted_text, size_text, line_text}

-- ## The escapes

-- a byte that stands for itself, which no quote does, and what is read behind it
abbrev pub read_plain : ℕ → Option (List ℕ) → Option (List ℕ)
read_plain b behind = if is_marked b then None else option_map (λ line. b ∷ line) behind

-- a quote or a backslash, before which a backslash stood, and what is read behind it
abbrev pub read_marked : ℕ → Option (List ℕ) → Option (List ℕ)
read_marked b behind = if is_marked b then option_map (λ line. b ∷ line) behind else None

-- the byte of two hexadecimal digits, before which a backslash and an x stood, and what is read behind it
abbrev pub read_coded : ℕ → ℕ → Option (List ℕ) → Option (List ℕ)
read_coded high low behind =
    if is_digit high 16 && is_digit low 16 then option_map (λ line. (16 * digit_value high + digit_value low) ∷ line) behind else None

-- the line that an escaped text stands for; none where a backslash (92) has neither a quote, a backslash, nor an x (120) and two digits
-- behind it, or where a quote stands alone
unfoldable pub unescaped : List ℕ → Option (List ℕ)
unescaped [] = Some []
unescaped (a ∷ []) = read_plain a (Some [])
unescaped (a ∷ b ∷ []) = if a == 92 then read_marked b (Some []) else read_plain a (unescaped (b ∷ []))
unescaped (a ∷ b ∷ c ∷ []) = if a == 92 then read_marked b (unescaped (c ∷ [])) else read_plain a (unescaped (b ∷ c ∷ []))
unescaped (a ∷ b ∷ c ∷ d ∷ rest) =
    if a == 92 then (if b == 120 then read_coded c d (unescaped rest) else read_marked b (unescaped (c ∷ d ∷ rest)))
    else read_plain a (unescaped (b ∷ c ∷ d ∷ rest))

-- ## The parts of a line

-- how many bytes stand before the first quote (34) that has no backslash before it, which takes the byte behind it along
unfoldable pub quoted_len : List ℕ → ℕ
quoted_len [] = 0
quoted_len (a ∷ []) = if a == 34 then 0 else 1
quoted_len (a ∷ b ∷ rest) = if a == 34 then 0 else (if a == 92 then 2 + quoted_len rest else 1 + quoted_len (b ∷ rest))

-- the remote host: what stands before the first space
abbrev pub host_in : List ℕ → List ℕ
host_in line = before_first (λ b. b == 32) line

-- the time: what stands between brackets (91, 93)
abbrev pub time_in : List ℕ → List ℕ
time_in line = before_first (λ b. b == 93) (after_first (λ b. b == 91) line)

-- what stands behind the first quote
abbrev pub behind_quote : List ℕ → List ℕ
behind_quote line = after_first (λ b. b == 34) line

-- the request line, with its escapes: what stands between quotes
abbrev pub request_in : List ℕ → List ℕ
request_in line = take (quoted_len (behind_quote line)) (behind_quote line)

-- what stands behind the second quote and the space that follows it
abbrev pub behind_request : List ℕ → List ℕ
behind_request line = drop (quoted_len (behind_quote line) + 2) (behind_quote line)

-- the code: what stands there before a space
abbrev pub code_in : List ℕ → List ℕ
code_in line = before_first (λ b. b == 32) (behind_request line)

-- the size: what stands behind that space
abbrev pub size_in : List ℕ → List ℕ
size_in line = after_first (λ b. b == 32) (behind_request line)

-- ## What is read

-- the line tells of its response, where it is read so
pub record IsReadBack (e : Logged) : Type 0 where
  pub host : host_in (line_text e) ≡ address_text e.peer
  pub time : time_in (line_text e) ≡ time_text (parts_at e.date) ++ codes " +0000"
  pub request : request_in (line_text e) ≡ quoted_text e.line
  pub line : e.line ≢ [] → unescaped (request_in (line_text e)) ≡ Some e.line
  pub code : code_in (line_text e) ≡ decimal e.code
  pub size : size_in (line_text e) ≡ size_text e.size
