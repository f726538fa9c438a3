-- A path: the part of a target before its query. Its escapes are a percent sign (37) and two hexadecimal digits
-- (RFC 3986, section 2.1), and slashes (47) part its segments (section 3.3).
use Rattle.std.specs.Prelude.{ℕ, ◌-◌, ◌==◌, ◌&&◌, ◌||◌, Bool, true, false, not, List, [], ◌∷◌, length, codes, filter, slice_index}
use Rattle.std.specs.List.{join_with_byte, list_any, slice_split}
use Rattle.std.specs.Char.{is_ascii_hexdigit}
use Rattle.std.specs.Str.{bytes_eq}

-- two hexadecimal digits stand at the front
abbrev pub begins_with_digits : List ℕ → Bool
begins_with_digits bytes = is_ascii_hexdigit (slice_index bytes 0) && is_ascii_hexdigit (slice_index bytes 1)

-- each percent sign has its two digits behind it
abbrev pub has_whole_escapes : List ℕ → Bool
has_whole_escapes [] = true
has_whole_escapes (b ∷ bs) = (not (b == 37) || begins_with_digits bs) && has_whole_escapes bs

-- the escape of a slash stands at the front: a percent sign, 2 (50), and F (70) or f (102)
abbrev pub begins_with_escaped_slash : List ℕ → Bool
begins_with_escaped_slash bytes =
    slice_index bytes 0 == 37 && slice_index bytes 1 == 50 && (slice_index bytes 2 == 70 || slice_index bytes 2 == 102)

-- a slash is escaped
abbrev pub has_escaped_slash : List ℕ → Bool
has_escaped_slash [] = false
has_escaped_slash (b ∷ bs) = begins_with_escaped_slash (b ∷ bs) || has_escaped_slash bs

-- some byte is NUL
abbrev pub has_nul : List ℕ → Bool
has_nul bytes = list_any (λ b. b == 0) bytes

-- the byte is the slash, which parts segments
abbrev pub is_slash : ℕ → Bool
is_slash b = b == 47

-- there is some byte
abbrev pub is_filled : List ℕ → Bool
is_filled segment = not (length segment == 0)

-- the segments that aren't empty
abbrev pub segments : List ℕ → List (List ℕ)
segments path = filter is_filled (slice_split is_slash path)

-- one of the two dot-segments
abbrev pub is_dot_segment : List ℕ → Bool
is_dot_segment segment = bytes_eq segment (codes ".") || bytes_eq segment (codes "..")

-- the path has a dot-segment
abbrev pub has_dot_segment : List ℕ → Bool
has_dot_segment path = list_any is_dot_segment (segments path)

-- the path ends with a slash, or is empty
abbrev pub names_folder : List ℕ → Bool
names_folder path = is_slash (slice_index path (length path - 1)) || length path == 0

-- the name that segments spell, with a slash between each two
abbrev pub name_of_segments : List (List ℕ) → List ℕ
name_of_segments parts = join_with_byte 47 parts
