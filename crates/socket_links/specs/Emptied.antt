-- Which reads leave nothing behind, and behind which events a read that was short may.
use Rattle.std.specs.Prelude.{ℕ, nat_lt, Bool, true, false, ◌||◌}
use Rattle.mio.specs.declared.event.event.Event.{Event}
use Rattle.mio.specs.Event.{is_error, is_priority, is_read_closed, is_write_closed}
use Rattle.mpm_base.specs.declared.link.Got.{Got}
use Rattle.mpm_base.specs.declared.link.Got.TheVariants as got

-- something may stand behind a read that was short, of which no further event tells: the event says that the client sends no more, that the
-- connection failed, or that bytes are urgent
abbrev pub hides_more : Event → Bool
hides_more e = is_error e || is_read_closed e || is_write_closed e || is_priority e

-- a read into so much room that answered this left nothing behind: it was short of its room, or found nothing
abbrev pub empties : Got → ℕ → Bool
empties (got.Got n) room = nat_lt n room
empties got.NotReady room = true
empties got.End room = false
empties got.Failed room = false
