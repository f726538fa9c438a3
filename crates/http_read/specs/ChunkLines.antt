-- The chunks of a chunked body (RFC 9112, section 7.1). The grammar of a chunk line is httparse's.
-- Why it is so stands in docs/DECISIONS.md: 22, What a body is.
use Rattle.std.specs.Prelude.{◌≡◌, ℕ, ◌<◌, ◌≤◌, ◌⊎◌, List, ◌++◌, length, take, sum_by, All}
use Rattle.std.specs.List.{flat_map}
use Rattle.httparse.specs.Ascii.{crlf_bytes}
use Rattle.httparse.specs.Grammar.{ChunkLine, IsChunkLine, print_extension, print_chunk_line, chunk_size, HasNoChunkLine, NeverHasChunkLine, MayBecomeChunkLine}
use Rattle.http_read.specs.Sizes.{greatest_body, greatest_chunk_line, greatest_extensions}

-- a chunk line that is short enough with its line end
pub record IsShortLine (l : ChunkLine) : Type 0 where
  pub line : IsChunkLine l
  pub short : length (print_chunk_line l) ≤ greatest_chunk_line

-- a chunk: its line and its data
pub record Chunk : Type 0 where
  pub line : ChunkLine
  pub content : List ℕ

-- the bytes of a chunk: its line, its data and CRLF
abbrev pub print_chunk : Chunk → List ℕ
print_chunk c = print_chunk_line c.line ++ (c.content ++ crlf_bytes)

-- the line says how long the data is, and that is not 0
pub record IsChunk (c : Chunk) : Type 0 where
  pub line : IsShortLine c.line
  pub size : chunk_size c.line ≡ length c.content
  pub some : 0 < length c.content

-- the bytes of chunks, one after the other
abbrev pub print_chunks : List Chunk → List ℕ
print_chunks chunks = flat_map print_chunk chunks

-- how many bytes of data the chunks have
abbrev pub content_len : List Chunk → ℕ
content_len chunks = sum_by (λ (c : Chunk). length c.content) chunks

-- how many bytes the extension of a chunk line has, from its semicolon to its CR
abbrev pub extension_len : ChunkLine → ℕ
extension_len l = length (print_extension l.extension)

-- how many bytes the extensions of the chunks have in all
abbrev pub extensions_len : List Chunk → ℕ
extensions_len chunks = sum_by (λ (c : Chunk). extension_len c.line) chunks

-- chunks whose data and whose extensions are no more than a body may have
pub record AreChunks (chunks : List Chunk) : Type 0 where
  pub each : All IsChunk chunks
  pub sum : content_len chunks ≤ greatest_body
  pub extensions : extensions_len chunks ≤ greatest_extensions

-- a chunk line that isn't whole: its end may still come, and it is shorter than a chunk line may be
pub record IsChunkLineBegun (bytes : List ℕ) : Type 0 where
  pub unfinished : MayBecomeChunkLine bytes
  pub no_line : HasNoChunkLine bytes
  pub short : length bytes < greatest_chunk_line

-- a chunk line can't come of the bytes, or as many bytes of it as may be are there without its end
abbrev pub BreaksChunkLine : List ℕ → Type 0
BreaksChunkLine bytes =
    NeverHasChunkLine bytes
    ⊎ ((greatest_chunk_line ≤ length bytes) × HasNoChunkLine (take greatest_chunk_line bytes))
