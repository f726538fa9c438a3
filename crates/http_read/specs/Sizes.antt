-- The greatest sizes of what is read.
use Rattle.std.specs.Prelude.{ℕ}

-- a head ends within 65,536 bytes
abbrev pub greatest_head : ℕ
greatest_head = 65536

-- a body has at most 1,073,741,824 bytes of data
abbrev pub greatest_body : ℕ
greatest_body = 1073741824

-- a chunk line has at most 1,024 bytes with its line end
abbrev pub greatest_chunk_line : ℕ
greatest_chunk_line = 1024

-- the chunk extensions of a body have at most 16,384 bytes in all
abbrev pub greatest_extensions : ℕ
greatest_extensions = 16384

-- a trailer line has at most 8,190 bytes with its line end
abbrev pub greatest_trailer : ℕ
greatest_trailer = 8190

-- a chunked body has at most 100 trailer lines
abbrev pub most_trailers : ℕ
most_trailers = 100
