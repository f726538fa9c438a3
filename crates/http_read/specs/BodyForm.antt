-- The body of a request (RFC 9112, sections 6 and 7.1): when bytes are a whole body, the front of one, or
-- break its form.
-- Why it is so stands in docs/DECISIONS.md: 22, What a body is.
use Rattle.std.specs.Prelude.{◌≡◌, ℕ, ◌+◌, ◌<◌, ◌≤◌, ◌⊎◌, List, [], ◌∷◌, ◌++◌, length, take, All}
use Rattle.httparse.specs.Ascii.{crlf_bytes}
use Rattle.httparse.specs.Grammar.{LineEnd, print_end, Field, ChunkLine, print_chunk_line, chunk_size}
use Rattle.http_read.specs.declared.request.BodyKind.{BodyKind}
use Rattle.http_read.specs.declared.request.BodyKind.TheVariants as kind
use Rattle.http_read.specs.ChunkLines.{IsShortLine, Chunk, print_chunks, content_len, extension_len, extensions_len, AreChunks, IsChunkLineBegun, BreaksChunkLine}
use Rattle.http_read.specs.TrailerLines.{IsTrailer, print_trailers, AreTrailers, IsTrailerBegun, IsTrailerTooLong, HasNoTrailer}
use Rattle.http_read.specs.Sizes.{greatest_body, greatest_extensions, most_trailers}

-- the chunks and the line of the last chunk, which says 0
pub record IsChunkedData (bytes : List ℕ) : Type 0 where
  pub chunks : List Chunk
  pub last : ChunkLine
  pub are_chunks : AreChunks chunks
  pub is_line : IsShortLine last
  pub zero : chunk_size last ≡ 0
  pub extensions : extensions_len chunks + extension_len last ≤ greatest_extensions
  pub printed : bytes ≡ print_chunks chunks ++ print_chunk_line last

-- a chunked body: the chunks, few enough trailer lines, and an empty line (CRLF or LF)
pub record IsChunkedBody (bytes : List ℕ) : Type 0 where
  pub before : List ℕ
  pub trailers : List Field
  pub end : LineEnd
  pub is_data : IsChunkedData before
  pub are_trailers : AreTrailers trailers
  pub printed : bytes ≡ before ++ (print_trailers trailers ++ print_end end)

-- the bytes are one whole body of that kind
abbrev pub IsBody : BodyKind → List ℕ → Type 0
IsBody kind.Nothing bytes = bytes ≡ []
IsBody (kind.Length n) bytes = length bytes ≡ n
IsBody kind.Chunked bytes = IsChunkedBody bytes

-- the bytes begin with a whole body of n bytes
pub record BeginsBody (of : BodyKind) (bytes : List ℕ) (n : ℕ) : Type 0 where
  pub within : n ≤ length bytes
  pub body : IsBody of (take n bytes)

-- the bytes end in a chunk line that isn't whole
pub record EndsInChunkLine (bytes line : List ℕ) : Type 0 where
  pub chunks : List Chunk
  pub are_chunks : AreChunks chunks
  pub begun : IsChunkLineBegun line
  pub printed : bytes ≡ print_chunks chunks ++ line

-- the bytes end in a chunk behind its line: more of its data and CRLF has to come
pub record EndsInChunk (bytes : List ℕ) : Type 0 where
  pub chunks : List Chunk
  pub chunk : Chunk
  pub here : List ℕ
  pub missing : List ℕ
  pub are_chunks : AreChunks (chunks ++ chunk ∷ [])
  pub whole : chunk.content ++ crlf_bytes ≡ here ++ missing
  pub some : 0 < length missing
  pub printed : bytes ≡ print_chunks chunks ++ (print_chunk_line chunk.line ++ here)

-- the bytes end in a trailer line, or in the empty line, that isn't whole
pub record EndsInTrailer (bytes line : List ℕ) : Type 0 where
  pub before : List ℕ
  pub trailers : List Field
  pub is_data : IsChunkedData before
  pub are_trailers : AreTrailers trailers
  pub begun : IsTrailerBegun line
  pub printed : bytes ≡ before ++ (print_trailers trailers ++ line)

-- the bytes are the front of a chunked body, with the line that isn't whole at their end
abbrev pub IsChunkedFront : List ℕ → List ℕ → Type 0
IsChunkedFront bytes line =
    EndsInChunkLine bytes line ⊎ ((EndsInChunk bytes × (line ≡ [])) ⊎ EndsInTrailer bytes line)

-- the bytes are the front of a body of that kind, more of which has to come, and end in this line that isn't whole
abbrev pub IsBodyFront : BodyKind → List ℕ → List ℕ → Type 0
IsBodyFront kind.Nothing bytes line = ⊥
IsBodyFront (kind.Length n) bytes line = (length bytes < n) × (line ≡ [])
IsBodyFront kind.Chunked bytes line = IsChunkedFront bytes line

-- no chunk line that is short enough can come where one is due: 400
pub record BreaksAtLine (bytes : List ℕ) (code : ℕ) : Type 0 where
  pub chunks : List Chunk
  pub rest : List ℕ
  pub are_chunks : AreChunks chunks
  pub breaks : BreaksChunkLine rest
  pub printed : bytes ≡ print_chunks chunks ++ rest
  pub code_is : code ≡ 400

-- the extensions add up to more bytes than those of a body may have: 400
pub record BreaksAtExtension (bytes : List ℕ) (code : ℕ) : Type 0 where
  pub chunks : List Chunk
  pub line : ChunkLine
  pub rest : List ℕ
  pub are_chunks : AreChunks chunks
  pub is_line : IsShortLine line
  pub above : greatest_extensions < extensions_len chunks + extension_len line
  pub printed : bytes ≡ print_chunks chunks ++ (print_chunk_line line ++ rest)
  pub code_is : code ≡ 400

-- the sizes add up to more than the greatest size of a body, and the extensions don't: 413
pub record BreaksAtSum (bytes : List ℕ) (code : ℕ) : Type 0 where
  pub chunks : List Chunk
  pub line : ChunkLine
  pub rest : List ℕ
  pub are_chunks : AreChunks chunks
  pub is_line : IsShortLine line
  pub extensions : extensions_len chunks + extension_len line ≤ greatest_extensions
  pub above : greatest_body < content_len chunks + chunk_size line
  pub printed : bytes ≡ print_chunks chunks ++ (print_chunk_line line ++ rest)
  pub code_is : code ≡ 413

-- other bytes than CRLF stand behind the data of a chunk: 400
pub record BreaksAtChunkEnd (bytes : List ℕ) (code : ℕ) : Type 0 where
  pub chunks : List Chunk
  pub chunk : Chunk
  pub rest : List ℕ
  pub are_chunks : AreChunks (chunks ++ chunk ∷ [])
  pub no_end : (more behind : List ℕ) → ¬ (rest ++ more ≡ crlf_bytes ++ behind)
  pub printed : bytes ≡ print_chunks chunks ++ (print_chunk_line chunk.line ++ (chunk.content ++ rest))
  pub code_is : code ≡ 400

-- a trailer line is too long, or no field line, or is one too many: 400
pub record BreaksAtTrailer (bytes : List ℕ) (code : ℕ) : Type 0 where
  pub before : List ℕ
  pub trailers : List Field
  pub rest : List ℕ
  pub is_data : IsChunkedData before
  pub breaks : (AreTrailers trailers × (IsTrailerTooLong rest ⊎ HasNoTrailer rest)) ⊎ ((length trailers ≡ most_trailers + 1) × All IsTrailer trailers)
  pub printed : bytes ≡ before ++ (print_trailers trailers ++ rest)
  pub code_is : code ≡ 400

-- the bytes break the form of a chunked body, for that code
abbrev pub BreaksChunked : List ℕ → ℕ → Type 0
BreaksChunked bytes code =
    BreaksAtLine bytes code
    ⊎ (BreaksAtExtension bytes code
    ⊎ (BreaksAtSum bytes code ⊎ (BreaksAtChunkEnd bytes code ⊎ BreaksAtTrailer bytes code)))

-- the bytes break the form of a body of that kind, for that code
abbrev pub BreaksBody : BodyKind → List ℕ → ℕ → Type 0
BreaksBody kind.Nothing bytes code = ⊥
BreaksBody (kind.Length n) bytes code = ⊥
BreaksBody kind.Chunked bytes code = BreaksChunked bytes code

-- what bytes are of a body: a whole one of so many bytes at their front, the front of one with this line at its end, or a break for this code
pub data BodyForm : Type 0 where
  WholeBody : ℕ → BodyForm
  BodyFront : List ℕ → BodyForm
  BrokenBody : ℕ → BodyForm

-- bytes have that form of a body of that kind
abbrev pub HasForm : BodyKind → List ℕ → BodyForm → Type 0
HasForm of bytes (WholeBody n) = BeginsBody of bytes n
HasForm of bytes (BodyFront line) = IsBodyFront of bytes line
HasForm of bytes (BrokenBody code) = BreaksBody of bytes code
