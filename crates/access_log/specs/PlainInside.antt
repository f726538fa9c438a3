-- The bytes of a request line that stand in the log as they are.
use Rattle.std.specs.Prelude.{ℕ, ◌&&◌, Bool, not}
use Rattle.access_log.specs.EscapedLine.{is_marked, is_printed}

-- a byte of printed ASCII that is neither a quote nor a backslash
abbrev pub is_plain : ℕ → Bool
is_plain b = is_printed b && not (is_marked b)
