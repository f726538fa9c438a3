-- What single bytes make of a chunked body.
use Rattle.std.specs.Prelude.{ℕ, ◌+◌, ◌-◌, ◌*◌, ◌≤◌, ◌==◌, ◌&&◌, ◌||◌, nat_lt, if◌then◌else◌, List, [], ◌∷◌, ⊤}
use Rattle.std.specs.Char.{is_ascii_hexdigit, digit_value}
use Rattle.httparse.specs.Grammar.{is_token_byte, is_value_byte}
use Rattle.http_read.specs.declared.chunk_line.ChunkLinePart.{ChunkLinePart}
use Rattle.http_read.specs.declared.chunk_line.ChunkLinePart.TheVariants.{Digits, Pad, Extension, CarriageReturn}
use Rattle.http_read.specs.declared.chunk_line.ChunkLineFront.{ChunkLineFront}
use Rattle.http_read.specs.declared.chunk_line.ChunkLineMove.{ChunkLineMove}
use Rattle.http_read.specs.declared.chunk_line.ChunkLineMove.TheVariants.{Front, Whole, Broken}
use Rattle.http_read.specs.declared.trailer_line.TrailerPart.{TrailerPart}
use Rattle.http_read.specs.declared.trailer_line.TrailerPart.TheVariants as trailer
use Rattle.http_read.specs.declared.trailer_line.TrailerFront.{TrailerFront}
use Rattle.http_read.specs.declared.trailer_line.TrailerMove.{TrailerMove}
use Rattle.http_read.specs.declared.trailer_line.TrailerMove.TheVariants as trailer_move
use Rattle.http_read.specs.declared.chunked.ChunkTotals.{ChunkTotals}
use Rattle.http_read.specs.declared.chunked.ChunkedPlace.{ChunkedPlace}
use Rattle.http_read.specs.declared.chunked.ChunkedPlace.TheVariants.{Line, Data, DataLineFeed, Trailer}
use Rattle.http_read.specs.declared.chunked.ChunkedMove.{ChunkedMove}
use Rattle.http_read.specs.declared.chunked.ChunkedMove.TheVariants.{On, Done, Bad}
use Rattle.http_read.specs.BodyPlaces.{chunked_begun_len}
use Rattle.http_read.specs.BodyPlacesInside.{IsSmallFront, IsSmallTrailer, IsSmallChunked}
use Rattle.http_read.specs.Sizes.{greatest_body, greatest_extensions, greatest_chunk_line, greatest_trailer, most_trailers}

-- nothing of a chunk line
abbrev pub first_front : ChunkLineFront
first_front = record { len = 0; size = 0; extension = 0; part = Digits }

-- before the first chunk
abbrev pub no_totals : ChunkTotals
no_totals = record { content = 0; extensions = 0 }

-- before a chunked body
abbrev pub first_place : ChunkedPlace
first_place = Line no_totals first_front

-- the front with one more byte, while it is shorter than a chunk line may be
abbrev pub longer : ChunkLineFront → ℕ → ℕ → ChunkLinePart → ChunkLineMove
longer f size extension part =
    if nat_lt (f.len + 1) greatest_chunk_line
    then Front (record { len = f.len + 1; size = size; extension = extension; part = part }) else Broken

-- a byte behind the digits and the padding
abbrev pub pad_step : ChunkLineFront → ℕ → ChunkLineMove
pad_step f b = if b == 32 || b == 9 then longer f f.size 0 Pad else if b == 59 then longer f f.size 1 Extension else if b == 13 then longer f f.size 0 CarriageReturn else Broken

-- a byte in or behind the digits
abbrev pub digit_step : ChunkLineFront → ℕ → ChunkLineMove
digit_step f b = if is_ascii_hexdigit b then (if nat_lt f.len 16 then longer f (f.size * 16 + digit_value b) 0 Digits else Broken) else (if f.len == 0 then Broken else pad_step f b)

-- a byte in an extension
abbrev pub extension_step : ChunkLineFront → ℕ → ChunkLineMove
extension_step f b = if b == 13 then longer f f.size f.extension CarriageReturn else if b == 10 then Broken else longer f f.size (f.extension + 1) Extension

-- a byte behind a part of a chunk line
abbrev pub part_step : ChunkLinePart → ChunkLineFront → ℕ → ChunkLineMove
part_step Digits f b = digit_step f b
part_step Pad f b = pad_step f b
part_step Extension f b = extension_step f b
part_step CarriageReturn f b = if b == 10 then Whole f.size f.extension else Broken

-- a byte behind the front of a chunk line
abbrev pub line_step : ChunkLineFront → ℕ → ChunkLineMove
line_step f b = part_step f.part f b

-- nothing of a line behind the last chunk
abbrev pub first_trailer : TrailerFront
first_trailer = record { len = 0; part = trailer.Name }

-- what a byte other than a line feed makes of a part of such a line, which has so many bytes before it
abbrev pub trailer_part : TrailerPart → ℕ → ℕ → TrailerPart
trailer_part trailer.Name len b =
    if is_token_byte b then trailer.Name else if b == 58 && nat_lt 0 len then trailer.Value
    else if b == 13 && len == 0 then trailer.LastCarriageReturn else trailer.NoField
trailer_part trailer.Value len b = if is_value_byte b then trailer.Value else if b == 13 then trailer.CarriageReturn else trailer.NoField
trailer_part trailer.CarriageReturn len b = trailer.NoField
trailer_part trailer.LastCarriageReturn len b = trailer.NoField
trailer_part trailer.NoField len b = trailer.NoField

-- what a line feed makes of it
abbrev pub trailer_end : TrailerPart → ℕ → TrailerMove
trailer_end trailer.Name len = if len == 0 then trailer_move.Empty else trailer_move.Broken
trailer_end trailer.Value len = trailer_move.Field
trailer_end trailer.CarriageReturn len = trailer_move.Field
trailer_end trailer.LastCarriageReturn len = trailer_move.Empty
trailer_end trailer.NoField len = trailer_move.Broken

-- a byte behind the front of a line behind the last chunk
abbrev pub trailer_step : TrailerFront → ℕ → TrailerMove
trailer_step f b =
    if b == 10 then trailer_end f.part f.len
    else if nat_lt (f.len + 1) greatest_trailer
    then trailer_move.Front (record { len = f.len + 1; part = trailer_part f.part f.len b }) else trailer_move.Broken

-- what becomes of the body by a byte of such a line, behind so many trailer lines
abbrev pub behind_trailer : ℕ → TrailerMove → ChunkedMove
behind_trailer count (trailer_move.Front f) = On (Trailer count f)
behind_trailer count trailer_move.Field = if nat_lt count most_trailers then On (Trailer (count + 1) first_trailer) else Bad 400
behind_trailer count trailer_move.Empty = Done
behind_trailer count trailer_move.Broken = Bad 400

-- what becomes of the body by a whole chunk line with this size and an extension of so many bytes
abbrev pub behind_whole : ChunkTotals → ℕ → ℕ → ChunkedMove
behind_whole totals size extension =
    if nat_lt (greatest_extensions - totals.extensions) extension then Bad 400
    else if size == 0 then On (Trailer 0 first_trailer)
    else if nat_lt (greatest_body - totals.content) size then Bad 413
    else On (Data (record { content = totals.content + size; extensions = totals.extensions + extension }) size)

-- what becomes of it by a byte of a chunk line, where the chunks before it have these totals
abbrev pub behind_line : ChunkTotals → ChunkLineMove → ChunkedMove
behind_line totals (Front f) = On (Line totals f)
behind_line totals (Whole size extension) = behind_whole totals size extension
behind_line totals Broken = Bad 400

-- a byte of a chunked body
abbrev pub chunked_step : ChunkedPlace → ℕ → ChunkedMove
chunked_step (Line totals f) b = behind_line totals (line_step f b)
chunked_step (Data totals left) b = if nat_lt 0 left then On (Data totals (left - 1)) else if b == 13 then On (DataLineFeed totals) else Bad 400
chunked_step (DataLineFeed totals) b = if b == 10 then On (Line totals first_front) else Bad 400
chunked_step (Trailer count f) b = behind_trailer count (trailer_step f b)

-- a front that a byte makes has at most one byte more
abbrev pub IsSmallLineMove : ℕ → ChunkLineMove → Type 0
IsSmallLineMove len (Front f) = IsSmallFront f × (f.len ≤ len + 1)
IsSmallLineMove len (Whole size extension) = extension ≤ greatest_chunk_line
IsSmallLineMove len Broken = ⊤

-- a front that a byte makes of a line behind the last chunk has at most one byte more
abbrev pub IsSmallTrailerMove : ℕ → TrailerMove → Type 0
IsSmallTrailerMove len (trailer_move.Front f) = IsSmallTrailer f × (f.len ≤ len + 1)
IsSmallTrailerMove len trailer_move.Field = ⊤
IsSmallTrailerMove len trailer_move.Empty = ⊤
IsSmallTrailerMove len trailer_move.Broken = ⊤

-- the counts of the place behind a move stay within their limits
abbrev pub IsSmallMove : ChunkedMove → Type 0
IsSmallMove (On p) = IsSmallChunked p
IsSmallMove Done = ⊤
IsSmallMove (Bad code) = ⊤

-- how many bytes of a line that isn't whole there are behind a move
abbrev pub move_begun_len : ChunkedMove → ℕ
move_begun_len (On p) = chunked_begun_len p
move_begun_len Done = 0
move_begun_len (Bad code) = 0

-- what bytes make of a chunked body: it stays open, or it ends before the rest, or breaks
pub data Outcome : Type 0 where
  Open : ChunkedPlace → Outcome
  Ended : List ℕ → Outcome
  Breaks : ℕ → Outcome

-- what becomes of the body behind a byte
abbrev pub then_run : (ChunkedPlace → Outcome) → ChunkedMove → List ℕ → Outcome
then_run further (On p) rest = further p
then_run further Done rest = Ended rest
then_run further (Bad code) rest = Breaks code

-- what the bytes make of the body
abbrev pub run : List ℕ → ChunkedPlace → Outcome
run [] p = Open p
run (b ∷ bytes) p = then_run (λ q. run bytes q) (chunked_step p b) bytes

-- what the rest makes of it
abbrev pub run_on : ChunkedMove → List ℕ → Outcome
run_on m rest = then_run (λ q. run rest q) m rest

-- what has become of the body, with the rest behind its end
abbrev pub outcome_of : ChunkedMove → List ℕ → Outcome
outcome_of (On p) rest = Open p
outcome_of Done rest = Ended rest
outcome_of (Bad code) rest = Breaks code
