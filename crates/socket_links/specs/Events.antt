-- What an event of the system is for and says, and how long a wait lasts.
use Rattle.std.specs.Prelude.{ℕ, ◌-◌, nat_lt, ◌==◌, Bool, true, false, not, ◌&&◌, ◌||◌, if◌then◌else◌, Option, Some, option_map}
use Rattle.mio.specs.declared.event.event.Event.{Event}
use Rattle.mio.specs.Event.{is_readable, is_writable, is_error, is_read_closed, is_write_closed}
use Rattle.mpm_base.specs.Front.{earlier}
use Rattle.socket_links.specs.declared.events.Source.{Source}
use Rattle.socket_links.specs.declared.events.Source.TheVariants as source

-- what is registered under that number: the listening socket, those of command lines, the bells, or the link of a
-- slot
abbrev pub source_of_number : ℕ → Source
source_of_number n =
    if n == 18446744073709551615 then source.Listener
    else if n == 18446744073709551614 then source.Control
    else if n == 18446744073709551613 then source.Bell
    else if nat_lt n 4294967296 then source.Slot n
    else source.Nothing

-- the event says that there is room to write, and nothing else
abbrev pub is_room_alone : Event → Bool
is_room_alone e =
    is_writable e && not (is_readable e || is_error e || is_read_closed e || is_write_closed e)

-- how long a wait at a moment lasts at most, in milliseconds: not at all where a bell was rung or a link gave way, and a tenth of a second
-- where a connection is to be asked for again
abbrev pub longest_wait : ℕ → Option ℕ → Bool → Bool → Option ℕ
longest_wait now until pressed true = Some 0
longest_wait now until true false = earlier (Some 100) (option_map (λ m. m - now) until)
longest_wait now until false false = option_map (λ m. m - now) until
