-- Where in a body its reader stands.
use Rattle.std.specs.Prelude.{◌≡◌, ◌≢◌, ℕ, ◌+◌, ◌<◌, ◌≤◌, List, [], ◌∷◌, ◌++◌, length, Option, ⊤}
use Rattle.std.specs.Char.{is_ascii_hexdigit}
use Rattle.std.specs.Str.Parse.{digits_value}
use Rattle.httparse.specs.Ascii.{carriage_return, semicolon, colon}
use Rattle.httparse.specs.Grammar.{AllPass, is_token_byte, is_value_byte, is_ows, is_extension_byte, IsToken, Field, IsField, print_field, IsExtension, print_extension, ChunkLine, print_chunk_line, chunk_size}
use Rattle.http_read.specs.declared.request.BodyKind.{BodyKind}
use Rattle.http_read.specs.declared.request.BodyKind.TheVariants as kind
use Rattle.http_read.specs.declared.body.BodyPlace.{BodyPlace}
use Rattle.http_read.specs.declared.body.BodyPlace.TheVariants.{Plain, Chunked, Ended, Broken}
use Rattle.http_read.specs.ChunkLines.{IsShortLine, Chunk, print_chunks, content_len, extension_len, extensions_len, AreChunks}
use Rattle.http_read.specs.TrailerLines.{print_trailers, AreTrailers, IsTrailerBegun}
use Rattle.http_read.specs.BodyForm.{IsChunkedData, IsBody, BreaksBody}
use Rattle.http_read.specs.declared.chunk_line.ChunkLinePart.{ChunkLinePart}
use Rattle.http_read.specs.declared.chunk_line.ChunkLinePart.TheVariants.{Digits, Pad, Extension, CarriageReturn}
use Rattle.http_read.specs.declared.chunk_line.ChunkLineFront.{ChunkLineFront}
use Rattle.http_read.specs.declared.trailer_line.TrailerPart.{TrailerPart}
use Rattle.http_read.specs.declared.trailer_line.TrailerPart.TheVariants as trailer
use Rattle.http_read.specs.declared.trailer_line.TrailerFront.{TrailerFront}
use Rattle.http_read.specs.declared.chunked.ChunkTotals.{ChunkTotals}
use Rattle.http_read.specs.declared.chunked.ChunkedPlace.{ChunkedPlace}
use Rattle.http_read.specs.declared.chunked.ChunkedPlace.TheVariants.{Line, Data, DataLineFeed, Trailer}
use Rattle.http_read.specs.Sizes.{greatest_body, greatest_extensions, greatest_chunk_line}

-- how many bytes of a line that isn't whole were looked at, in a chunked body
abbrev pub chunked_begun_len : ChunkedPlace → ℕ
chunked_begun_len (Line totals f) = f.len
chunked_begun_len (Data totals left) = 0
chunked_begun_len (DataLineFeed totals) = 0
chunked_begun_len (Trailer count f) = f.len

-- the digits of a chunk line write this size
pub record WritesSize (digits : List ℕ) (size : ℕ) : Type 0 where
  pub some : 0 < length digits
  pub few : length digits ≤ 16
  pub each : AllPass is_ascii_hexdigit digits
  pub value : size ≡ digits_value 16 digits

-- the bytes are the digits of a chunk line, which write the size, its padding, and this tail
pub record IsSizeBefore (size : ℕ) (bytes tail : List ℕ) : Type 0 where
  pub digits : List ℕ
  pub pad : List ℕ
  pub writes : WritesSize digits size
  pub blank : AllPass is_ows pad
  pub printed : bytes ≡ digits ++ (pad ++ tail)

-- the front of a chunk line that ends in that part, and how many bytes its extension has so far
abbrev pub EndsInPart : ChunkLinePart → List ℕ → ℕ → ℕ → Type 0
EndsInPart Digits bytes size extension = (length bytes ≤ 16) × AllPass is_ascii_hexdigit bytes × (size ≡ digits_value 16 bytes) × (extension ≡ 0)
EndsInPart Pad bytes size extension = (front : IsSizeBefore size bytes []) × (0 < length front.pad) × (extension ≡ 0)
EndsInPart Extension bytes size extension = (text : List ℕ) × AllPass is_extension_byte text × IsSizeBefore size bytes (semicolon ∷ text) × (extension ≡ length (semicolon ∷ text))
EndsInPart CarriageReturn bytes size extension = (text : Option (List ℕ)) × IsExtension text × IsSizeBefore size bytes (print_extension text ++ carriage_return ∷ []) × (extension ≡ length (print_extension text))

-- the bytes are that front of a chunk line
pub record IsChunkLineFront (bytes : List ℕ) (f : ChunkLineFront) : Type 0 where
  pub len : f.len ≡ length bytes
  pub short : length bytes < greatest_chunk_line
  pub ends : EndsInPart f.part bytes f.size f.extension

-- the totals are those of the chunks
pub record AreTotals (totals : ChunkTotals) (chunks : List Chunk) : Type 0 where
  pub content_is : totals.content ≡ content_len chunks
  pub extensions_is : totals.extensions ≡ extensions_len chunks

-- chunks, and the front of a chunk line
pub record StandsInLine (bytes : List ℕ) (totals : ChunkTotals) (f : ChunkLineFront) : Type 0 where
  pub chunks : List Chunk
  pub line : List ℕ
  pub are_chunks : AreChunks chunks
  pub are_totals : AreTotals totals chunks
  pub front : IsChunkLineFront line f
  pub printed : bytes ≡ print_chunks chunks ++ line

-- chunks, the line of a chunk, and its data without so many bytes that are to come
pub record StandsInData (bytes : List ℕ) (totals : ChunkTotals) (left : ℕ) : Type 0 where
  pub chunks : List Chunk
  pub line : ChunkLine
  pub here : List ℕ
  pub are_chunks : AreChunks chunks
  pub is_line : IsShortLine line
  pub some : 0 < chunk_size line
  pub size : length here + left ≡ chunk_size line
  pub content_is : totals.content ≡ content_len chunks + chunk_size line
  pub extensions_is : totals.extensions ≡ extensions_len chunks + extension_len line
  pub content_fits : totals.content ≤ greatest_body
  pub extensions_fit : totals.extensions ≤ greatest_extensions
  pub printed : bytes ≡ print_chunks chunks ++ (print_chunk_line line ++ here)

-- chunks, the last of them without its line feed
pub record StandsInChunkEnd (bytes : List ℕ) (totals : ChunkTotals) : Type 0 where
  pub chunks : List Chunk
  pub chunk : Chunk
  pub are_chunks : AreChunks (chunks ++ chunk ∷ [])
  pub are_totals : AreTotals totals (chunks ++ chunk ∷ [])
  pub printed : bytes ≡ print_chunks chunks ++ (print_chunk_line chunk.line ++ (chunk.content ++ carriage_return ∷ []))

-- the bytes can't become a field line, nor the empty line
pub record BeginsNoTrailer (bytes : List ℕ) : Type 0 where
  pub no_field : (more : List ℕ) (field : Field) → IsField field → ¬ (bytes ++ more ≡ print_field field)
  pub some : bytes ≢ []
  pub no_end : bytes ≢ carriage_return ∷ []

-- the bytes are a field line without its line end, and this tail
pub record IsFieldBefore (bytes tail : List ℕ) : Type 0 where
  pub name : List ℕ
  pub raw : List ℕ
  pub is_name : IsToken name
  pub is_raw : AllPass is_value_byte raw
  pub printed : bytes ≡ name ++ colon ∷ (raw ++ tail)

-- the front of a line behind the last chunk that ends in that part
abbrev pub EndsInTrailerPart : TrailerPart → List ℕ → Type 0
EndsInTrailerPart trailer.Name bytes = AllPass is_token_byte bytes
EndsInTrailerPart trailer.Value bytes = IsFieldBefore bytes []
EndsInTrailerPart trailer.CarriageReturn bytes = IsFieldBefore bytes (carriage_return ∷ [])
EndsInTrailerPart trailer.LastCarriageReturn bytes = bytes ≡ carriage_return ∷ []
EndsInTrailerPart trailer.NoField bytes = BeginsNoTrailer bytes

-- the bytes are that front of a line behind the last chunk
pub record IsTrailerFront (bytes : List ℕ) (f : TrailerFront) : Type 0 where
  pub begun : IsTrailerBegun bytes
  pub len : f.len ≡ length bytes
  pub ends : EndsInTrailerPart f.part bytes

-- the chunks, so many trailer lines, and the front of a further line
pub record StandsInTrailers (bytes : List ℕ) (count : ℕ) (f : TrailerFront) : Type 0 where
  pub before : List ℕ
  pub trailers : List Field
  pub line : List ℕ
  pub is_data : IsChunkedData before
  pub are_trailers : AreTrailers trailers
  pub count_is : count ≡ length trailers
  pub front : IsTrailerFront line f
  pub printed : bytes ≡ before ++ (print_trailers trailers ++ line)

-- the bytes of a chunked body that were looked at end at that place
abbrev pub StandsInChunked : List ℕ → ChunkedPlace → Type 0
StandsInChunked bytes (Line totals f) = StandsInLine bytes totals f
StandsInChunked bytes (Data totals left) = StandsInData bytes totals left
StandsInChunked bytes (DataLineFeed totals) = StandsInChunkEnd bytes totals
StandsInChunked bytes (Trailer count f) = StandsInTrailers bytes count f

-- a body of that kind, which has no chunks, has so many bytes
abbrev pub HasLength : BodyKind → ℕ → Type 0
HasLength kind.Nothing n = n ≡ 0
HasLength (kind.Length m) n = n ≡ m
HasLength kind.Chunked n = ⊥

-- the kind is that of a chunked body
abbrev pub IsChunkedKind : BodyKind → Type 0
IsChunkedKind kind.Nothing = ⊥
IsChunkedKind (kind.Length n) = ⊥
IsChunkedKind kind.Chunked = ⊤

-- the bytes of a body of that kind that were looked at end at that place: a whole body, and one whose form is broken, too
abbrev pub StandsAt : BodyKind → List ℕ → BodyPlace → Type 0
StandsAt of bytes (Plain left) = HasLength of (length bytes + left)
StandsAt of bytes (Chunked p) = IsChunkedKind of × StandsInChunked bytes p
StandsAt of bytes Ended = IsBody of bytes
StandsAt of bytes (Broken code) = BreaksBody of bytes code

-- how many bytes of a line that isn't whole were looked at: with them the next bytes begin again
abbrev pub begun_len : BodyPlace → ℕ
begun_len (Plain left) = 0
begun_len (Chunked p) = chunked_begun_len p
begun_len Ended = 0
begun_len (Broken code) = 0
