-- How many bytes a connection takes, offers and drops.
use Rattle.std.specs.Prelude.{ℕ}

-- a link is asked for at most 4,096 bytes at once
abbrev pub read_piece : ℕ
read_piece = 4096

-- of a body a link is offered at most 65,536 bytes at once
abbrev pub write_piece : ℕ
write_piece = 65536

-- a connection that lingers drops at most 1,048,576 bytes
abbrev pub most_dropped : ℕ
most_dropped = 1048576
