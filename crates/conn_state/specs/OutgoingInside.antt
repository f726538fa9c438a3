-- What is left to send once some bytes of it were sent.
use Rattle.std.specs.Prelude.{ℕ, ◌+◌, ◌-◌, length, drop, option_map}
use Rattle.conn_state.specs.declared.outgoing.FileRange.{FileRange}
use Rattle.conn_state.specs.Outgoing.{Unsent}

-- the range without so many bytes at its front
abbrev pub range_behind : ℕ → FileRange → FileRange
range_behind n r = record r { from = r.from + n }

-- what is left where so many bytes more were sent
abbrev pub unsent_behind : ℕ → Unsent → Unsent
unsent_behind n u = record { head = drop n u.head; body = option_map (range_behind (n - length u.head)) u.body }
