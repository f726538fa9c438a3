-- What holds of the counts of a place in a body.
use Rattle.std.specs.Prelude.{ℕ, ◌^◌, ◌<◌, ◌≤◌, ⊤}
use Rattle.http_read.specs.declared.body.BodyPlace.{BodyPlace}
use Rattle.http_read.specs.declared.body.BodyPlace.TheVariants.{Plain, Chunked, Ended, Broken}
use Rattle.http_read.specs.declared.chunk_line.ChunkLinePart.{ChunkLinePart}
use Rattle.http_read.specs.declared.chunk_line.ChunkLinePart.TheVariants.{Digits, Pad, Extension, CarriageReturn}
use Rattle.http_read.specs.declared.chunk_line.ChunkLineFront.{ChunkLineFront}
use Rattle.http_read.specs.declared.trailer_line.TrailerFront.{TrailerFront}
use Rattle.http_read.specs.declared.chunked.ChunkTotals.{ChunkTotals}
use Rattle.http_read.specs.declared.chunked.ChunkedPlace.{ChunkedPlace}
use Rattle.http_read.specs.declared.chunked.ChunkedPlace.TheVariants.{Line, Data, DataLineFeed, Trailer}
use Rattle.http_read.specs.Sizes.{greatest_body, greatest_extensions, greatest_chunk_line, greatest_trailer, most_trailers}

-- a size of so many digits is below that power of 16
abbrev pub IsSmallSize : ChunkLinePart → ℕ → ℕ → Type 0
IsSmallSize Digits len size = size < 16 ^ len
IsSmallSize Pad len size = ⊤
IsSmallSize Extension len size = ⊤
IsSmallSize CarriageReturn len size = ⊤

-- the front of a chunk line is shorter than a chunk line may be, and its extension is no longer than it
pub record IsSmallFront (f : ChunkLineFront) : Type 0 where
  pub len : f.len < greatest_chunk_line
  pub extension : f.extension ≤ f.len
  pub size : IsSmallSize f.part f.len f.size

-- the totals stay within their limits
pub record AreSmallTotals (totals : ChunkTotals) : Type 0 where
  pub content : totals.content ≤ greatest_body
  pub extensions : totals.extensions ≤ greatest_extensions

-- the front of a line behind the last chunk is shorter than a trailer line may be
abbrev pub IsSmallTrailer : TrailerFront → Type 0
IsSmallTrailer f = f.len < greatest_trailer

-- the counts of a place in a chunked body stay within their limits
abbrev pub IsSmallChunked : ChunkedPlace → Type 0
IsSmallChunked (Line totals f) = AreSmallTotals totals × IsSmallFront f
IsSmallChunked (Data totals left) = AreSmallTotals totals
IsSmallChunked (DataLineFeed totals) = AreSmallTotals totals
IsSmallChunked (Trailer count f) = (count ≤ most_trailers) × IsSmallTrailer f

-- the counts of a place stay within their limits
abbrev pub IsSmallPlace : BodyPlace → Type 0
IsSmallPlace (Plain left) = ⊤
IsSmallPlace (Chunked p) = IsSmallChunked p
IsSmallPlace Ended = ⊤
IsSmallPlace (Broken code) = ⊤
