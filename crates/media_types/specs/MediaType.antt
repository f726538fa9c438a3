-- The media type of a file, by the end of its name (RFC 9110, section 8.3).
-- Why it is so stands in docs/DECISIONS.md: 120, Which type a name has.
use Rattle.std.specs.Prelude.{ℕ, ◌==◌, ◌||◌, Bool, false, List, [], ◌∷◌, ◌++◌, codes, find, reverse, Option, Some, None, if◌then◌else◌}
use Rattle.std.specs.Str.{bytes_eq}
use Rattle.mpm_base.specs.LetterCase.{is_same_ignoring_case}
use Rattle.media_types.specs.declared.types.MediaTypes.{MediaTypes}
use Rattle.media_types.specs.declared.types.TypePair.{TypePair}

-- ## The extension of a name

-- this, or else the other
abbrev pub first_of_two : Option (List ℕ) → Option (List ℕ) → Option (List ℕ)
first_of_two (Some text) other = Some text
first_of_two None other = other

-- what follows the last point (46) of a name, where there is one
abbrev pub extension_of : List ℕ → Option (List ℕ)
extension_of [] = None
extension_of (b ∷ bs) = first_of_two (extension_of bs) (if b == 46 then Some bs else None)

-- ## The tables

-- an extension and its type
abbrev pub pair : List ℕ → List ℕ → TypePair
pair e t = record { extension = e; media = t }

-- the short table
abbrev pub short_table : List TypePair
short_table =
    pair (codes "html") (codes "text/html") ∷
    pair (codes "htm") (codes "text/html") ∷
    pair (codes "txt") (codes "text/plain") ∷
    pair (codes "css") (codes "text/css") ∷
    pair (codes "js") (codes "text/javascript") ∷
    pair (codes "json") (codes "application/json") ∷
    pair (codes "xml") (codes "application/xml") ∷
    pair (codes "svg") (codes "image/svg+xml") ∷
    pair (codes "png") (codes "image/png") ∷
    pair (codes "jpg") (codes "image/jpeg") ∷
    pair (codes "jpeg") (codes "image/jpeg") ∷
    pair (codes "gif") (codes "image/gif") ∷ []

-- what the long table has besides
abbrev pub further_table : List TypePair
further_table =
    pair (codes "mjs") (codes "text/javascript") ∷
    pair (codes "csv") (codes "text/csv") ∷
    pair (codes "md") (codes "text/markdown") ∷
    pair (codes "ics") (codes "text/calendar") ∷
    pair (codes "vtt") (codes "text/vtt") ∷
    pair (codes "map") (codes "application/json") ∷
    pair (codes "jsonld") (codes "application/ld+json") ∷
    pair (codes "webmanifest") (codes "application/manifest+json") ∷
    pair (codes "atom") (codes "application/atom+xml") ∷
    pair (codes "rss") (codes "application/rss+xml") ∷
    pair (codes "xhtml") (codes "application/xhtml+xml") ∷
    pair (codes "pdf") (codes "application/pdf") ∷
    pair (codes "wasm") (codes "application/wasm") ∷
    pair (codes "zip") (codes "application/zip") ∷
    pair (codes "gz") (codes "application/gzip") ∷
    pair (codes "epub") (codes "application/epub+zip") ∷
    pair (codes "rtf") (codes "application/rtf") ∷
    pair (codes "apng") (codes "image/apng") ∷
    pair (codes "webp") (codes "image/webp") ∷
    pair (codes "avif") (codes "image/avif") ∷
    pair (codes "ico") (codes "image/vnd.microsoft.icon") ∷
    pair (codes "bmp") (codes "image/bmp") ∷
    pair (codes "tif") (codes "image/tiff") ∷
    pair (codes "tiff") (codes "image/tiff") ∷
    pair (codes "woff") (codes "font/woff") ∷
    pair (codes "woff2") (codes "font/woff2") ∷
    pair (codes "ttf") (codes "font/ttf") ∷
    pair (codes "otf") (codes "font/otf") ∷
    pair (codes "mp3") (codes "audio/mpeg") ∷
    pair (codes "ogg") (codes "audio/ogg") ∷
    pair (codes "oga") (codes "audio/ogg") ∷
    pair (codes "opus") (codes "audio/ogg") ∷
    pair (codes "m4a") (codes "audio/mp4") ∷
    pair (codes "wav") (codes "audio/wav") ∷
    pair (codes "flac") (codes "audio/flac") ∷
    pair (codes "mp4") (codes "video/mp4") ∷
    pair (codes "m4v") (codes "video/mp4") ∷
    pair (codes "webm") (codes "video/webm") ∷
    pair (codes "ogv") (codes "video/ogg") ∷
    pair (codes "mov") (codes "video/quicktime") ∷ []

-- the table that is asked for: the long one has the short one and more
abbrev pub table_of : Bool → List TypePair
table_of long = if long then short_table ++ further_table else short_table

-- the pairs by which a type is looked up, of which the first counts: those that were added, a later one before an earlier one, and then
-- those of the table
abbrev pub pairs_of : MediaTypes → List TypePair
pairs_of types = reverse types.added ++ table_of types.long

-- ## The type

-- the pair is of that extension, in which case of letters doesn't count
abbrev pub is_pair_of : List ℕ → TypePair → Bool
is_pair_of extension p = is_same_ignoring_case extension p.extension

-- the type of the pair; of a name that no pair has it is the one that says nothing
abbrev pub type_of_pair : Option TypePair → List ℕ
type_of_pair None = codes "application/octet-stream"
type_of_pair (Some p) = p.media

-- the pair of a name with this extension; one without any has none
abbrev pub pair_of_extension : List TypePair → Option (List ℕ) → Option TypePair
pair_of_extension pairs None = None
pair_of_extension pairs (Some extension) = find (is_pair_of extension) pairs

-- the type is one of the two behind which a character set is named
abbrev pub takes_charset : List ℕ → Bool
takes_charset media = bytes_eq media (codes "text/html") || bytes_eq media (codes "text/plain")

-- the type with the character set behind it, where there is one to name
abbrev pub with_charset : Option (List ℕ) → List ℕ → List ℕ
with_charset None media = media
with_charset (Some charset) media = if takes_charset media then media ++ codes "; charset=" ++ charset else media

-- the type of a file of that name
unfoldable pub type_of_name : MediaTypes → List ℕ → List ℕ
type_of_name types name = with_charset types.charset (type_of_pair (pair_of_extension (pairs_of types) (extension_of name)))

-- nothing is added, the short table counts, and no character set is named
abbrev pub default_types : MediaTypes
default_types = record { added = []; long = false; charset = None }
