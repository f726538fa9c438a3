-- Which slots the events of a wait give.
use Rattle.std.specs.Prelude.{◌≡◌, ℕ, ◌==◌, Bool, true, false, not, ◌&&◌, ◌||◌, List}
use Rattle.std.specs.List.{IsDistinct, list_any}
use Rattle.mio.specs.declared.event.event.Event.{Event}
use Rattle.mio.specs.Event.{event_token}
use Rattle.socket_links.specs.Events.{is_room_alone, source_of_number}
use Rattle.socket_links.specs.declared.events.Source.{Source}
use Rattle.socket_links.specs.declared.events.Source.TheVariants as source

-- what the event is for
abbrev pub source_of_event : Event → Source
source_of_event e = source_of_number (event_token e).0

-- the event is for the listening socket
abbrev pub is_of_listener : Source → Bool
is_of_listener source.Listener = true
is_of_listener source.Control = false
is_of_listener source.Bell = false
is_of_listener (source.Slot slot) = false
is_of_listener source.Nothing = false

-- the event is for a socket of command lines
abbrev pub is_of_control : Source → Bool
is_of_control source.Listener = false
is_of_control source.Control = true
is_of_control source.Bell = false
is_of_control (source.Slot slot) = false
is_of_control source.Nothing = false

-- the event is for the link of the slot
abbrev pub is_of_slot : ℕ → Source → Bool
is_of_slot slot source.Listener = false
is_of_slot slot source.Control = false
is_of_slot slot source.Bell = false
is_of_slot slot (source.Slot n) = n == slot
is_of_slot slot source.Nothing = false

-- the event is for the link of the slot, and says more than that there is room
abbrev pub calls_for : ℕ → Event → Bool
calls_for slot e = is_of_slot slot (source_of_event e) && not (is_room_alone e)

-- the slot is one of these
abbrev pub has_slot : List ℕ → ℕ → Bool
has_slot slots slot = list_any (λ given. given == slot) slots

-- the slots that an event adds to those that were given before: it may add that of its own link, and does where it calls for it
pub record AddsSlot (e : Event) (old new : List ℕ) : Type 0 where
  pub kept : (slot : ℕ) → has_slot old slot ≡ true → has_slot new slot ≡ true
  pub only : (slot : ℕ) → has_slot new slot ≡ true
      → (has_slot old slot || is_of_slot slot (source_of_event e)) ≡ true
  pub owed : (slot : ℕ) → calls_for slot e ≡ true → has_slot new slot ≡ true

-- the slots that events give, each once: of links for which there is an event, and each for which one calls
pub record GivesSlots (events : List Event) (slots : List ℕ) : Type 0 where
  pub once : IsDistinct (λ a b. a == b) slots
  pub only : (slot : ℕ) → has_slot slots slot ≡ true
      → list_any (λ e. is_of_slot slot (source_of_event e)) events ≡ true
  pub owed : (slot : ℕ) → list_any (calls_for slot) events ≡ true → has_slot slots slot ≡ true
