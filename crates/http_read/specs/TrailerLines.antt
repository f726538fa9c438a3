-- The trailer lines behind the last chunk (RFC 9112, section 7.1.2), and the empty line behind them. A trailer line is a field
-- line of httparse's grammar (RFC 9112, section 5).
use Rattle.std.specs.Prelude.{◌≡◌, ◌≢◌, ℕ, ◌<◌, ◌≤◌, List, [], ◌∷◌, ◌++◌, length, take, All}
use Rattle.std.specs.List.{flat_map}
use Rattle.httparse.specs.Ascii.{line_feed}
use Rattle.httparse.specs.Grammar.{LineEnd, print_end, Field, IsField, print_field}
use Rattle.http_read.specs.Sizes.{greatest_trailer, most_trailers}

-- none of the bytes is a line feed
abbrev pub HasNoLineFeed : List ℕ → Type 0
HasNoLineFeed bytes = All (λ b. b ≢ line_feed) bytes

-- a trailer line: a field line that is short enough with its line end
pub record IsTrailer (field : Field) : Type 0 where
  pub is_field : IsField field
  pub short : length (print_field field) ≤ greatest_trailer

-- the bytes of trailer lines, one after the other
abbrev pub print_trailers : List Field → List ℕ
print_trailers fields = flat_map print_field fields

-- no more trailer lines than a body may have
pub record AreTrailers (fields : List Field) : Type 0 where
  pub each : All IsTrailer fields
  pub few : length fields ≤ most_trailers

-- a trailer line, or the empty line, that isn't whole: fewer bytes than one may have, without a line feed
pub record IsTrailerBegun (bytes : List ℕ) : Type 0 where
  pub one_line : HasNoLineFeed bytes
  pub short : length bytes < greatest_trailer

-- as many bytes of a trailer line as may be are there without its line feed
pub record IsTrailerTooLong (bytes : List ℕ) : Type 0 where
  pub long : greatest_trailer ≤ length bytes
  pub one_line : HasNoLineFeed (take greatest_trailer bytes)

-- the bytes up to the first line feed are neither a field line nor the empty line
pub record HasNoTrailer (bytes : List ℕ) : Type 0 where
  pub line : List ℕ
  pub behind : List ℕ
  pub begun : IsTrailerBegun line
  pub no_field : (field : Field) → IsField field → ¬ (line ++ line_feed ∷ [] ≡ print_field field)
  pub no_end : (end : LineEnd) → ¬ (line ++ line_feed ∷ [] ≡ print_end end)
  pub bytes_are : bytes ≡ line ++ line_feed ∷ behind
