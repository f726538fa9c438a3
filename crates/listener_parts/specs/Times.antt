-- Which of the listener's own events are made in time, by what it alone decides; and that all entries are then.
use Rattle.std.specs.Prelude.{◌≡◌, ℕ, Bool, true, false, not, ◌&&◌, ◌||◌, List, [], ◌∷◌, length, find, nat_lt, Option, None, Some, slice_get, if◌then◌else◌, ⊤}
use Rattle.std.specs.List.{list_any, range_with_len}
use Rattle.std.specs.Option.{option_map_or}
use Rattle.conn_machine.specs.declared.event.Entry.{Entry}
use Rattle.conn_machine.specs.declared.event.Event.{Event}
use Rattle.conn_machine.specs.declared.event.Event.TheVariants as event
use Rattle.conn_machine.specs.declared.folded.Folded.{Folded}
use Rattle.conn_machine.specs.declared.state.State.{State}
use Rattle.conn_machine.specs.Children.{is_empty, running_count}
use Rattle.conn_machine.specs.Events.{is_ready, is_tick, needs_child}
use Rattle.conn_machine.specs.Frames.{Frame, frame_next, frame_of}
use Rattle.conn_machine.specs.Made.{AreMade}
use Rattle.conn_machine.specs.Runs.{AllAt, own_events}
use Rattle.conn_machine.specs.Sound.{IsSound}
use Rattle.conn_machine.specs.States.{is_halted, is_over, is_serving}
use Rattle.table_rule.specs.Histories.{IsQueuedInTime}
use Rattle.table_rule.specs.declared.view.View.{View}
use Rattle.board_book.specs.Moments.{ticks_to}
use Rattle.board_book.specs.Timely.{AreTimely}

-- the lowest child that is gone, while the server takes connections and fewer children run than should
abbrev pub startable_at : Frame → Option ℕ
startable_at f =
    if is_serving f.going && nat_lt (running_count f.children) f.shape.target
    then find (λ k. option_map_or (λ c. is_empty c.phase) (slice_get f.children k) false)
    (range_with_len 0 (length f.children))
    else None

-- a graceful stop is at its end: the server takes no connections, hasn't stopped, and each child is gone
abbrev pub is_ended_at : Frame → Bool
is_ended_at f =
    not (is_serving f.going) && not (is_halted f.going)
    && not (list_any (λ c. not (is_empty c.phase)) f.children)

-- a child is started where fewer run than should, and it is the lowest one that is gone
abbrev pub IsStartedWhenAsked : Frame → Event → Type 0
IsStartedWhenAsked f (event.StartChild k) = startable_at f ≡ Some k
IsStartedWhenAsked f other = ⊤

-- it is time for the listener's event: a start is asked for; where the time of a graceful stop is over no slot is signalled, and no time
-- passes; and where one is at its end nothing is done that needs no child. (What needs one isn't allowed there.)
pub record IsTimelyAt (f : Frame) (e : Event) : Type 0 where
  pub asked : IsStartedWhenAsked f e
  pub within : is_over f.moment f.going ≡ true → (is_ready e || is_tick e) ≡ false
  pub before : needs_child e ≡ false → is_ended_at f ≡ false

-- so it is for each of these, one after the other
abbrev pub AreTimelyFrom : Frame → List Event → Type 0
AreTimelyFrom f [] = ⊤
AreTimelyFrom f (e ∷ events) = IsTimelyAt f e × AreTimelyFrom (frame_next f e) events

-- where it was time for each of the listener's own events, and each connection was handed over before its deadline, it was time for each entry
abbrev pub OwnEventsTellTheTime : Type 0
OwnEventsTellTheTime =
    (base : State) (f : Folded) (history : List Entry)
    → IsSound base
    → AreMade base f history
    → AllAt IsQueuedInTime base history
    → AreTimelyFrom (frame_of base) (own_events 0 history)
    → AreTimely base history

-- it was time for each of the listener's own events that the pass has seen, by what it alone decides
abbrev pub IsInTime : View → Type 0
IsInTime v = AreTimelyFrom (frame_of v.origin.state) (own_events 0 v.seen)

-- where it was before, so it was for each one since
abbrev pub KeepsTime : View → View → Type 0
KeepsTime old new = IsInTime old → IsInTime new

-- time may pass to the moment, or it is no later one: the time of a graceful stop isn't over, or nothing passes; and no such stop is at its end
pub record MayPassTo (to : ℕ) (f : Frame) : Type 0 where
  pub within : is_over f.moment f.going ≡ true → ticks_to f.moment to ≡ []
  pub before : is_ended_at f ≡ false

-- slots may be signalled: the time of a graceful stop isn't over, and no such stop is at its end
pub record MaySignal (f : Frame) : Type 0 where
  pub within : is_over f.moment f.going ≡ false
  pub before : is_ended_at f ≡ false
