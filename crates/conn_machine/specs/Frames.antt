-- What the listener alone decides of a state, and what its own events make of it.
use Rattle.std.specs.Prelude.{◌≡◌, ℕ, ◌+◌, List, ◌∷◌, ◌++◌, Some, filter, fold}
use Rattle.mpm_base.specs.Count.{next_count}
use Rattle.mpm_base.specs.declared.conn.ConnName.{ConnName}
use Rattle.mpm_base.specs.declared.shape.Shape.{Shape}
use Rattle.conn_machine.specs.declared.child.Child.{Child}
use Rattle.conn_machine.specs.declared.event.Commanded.{Commanded}
use Rattle.conn_machine.specs.declared.event.Commanded.TheVariants.{Graceful, Refused, GracefulStop, Stop}
use Rattle.conn_machine.specs.declared.event.Entry.{Entry}
use Rattle.conn_machine.specs.declared.event.Event.{Event}
use Rattle.conn_machine.specs.declared.event.Event.TheVariants as event
use Rattle.conn_machine.specs.declared.folded.Folded.{Folded}
use Rattle.conn_machine.specs.declared.state.Going.{Going}
use Rattle.conn_machine.specs.declared.state.Going.TheVariants.{Ending, Halted}
use Rattle.conn_machine.specs.declared.state.State.{State}
use Rattle.conn_machine.specs.Children.{all_stopped, retired_child, started_child}
use Rattle.conn_machine.specs.Events.{conn_needed, is_listeners}
use Rattle.conn_machine.specs.Lists.{update}
use Rattle.conn_machine.specs.Made.{AreMade}
use Rattle.conn_machine.specs.Runs.{after, entries_of, own_events, taken_name}
use Rattle.conn_machine.specs.Table.{next}

-- the moment, how many connections were taken, the newest generation and its shape, how the server goes on, and its children
pub record Frame : Type 0 where
  pub moment : ℕ
  pub accepted : ℕ
  pub newest : ℕ
  pub shape : Shape
  pub going : Going
  pub children : List Child

-- those of a state
abbrev pub frame_of : State → Frame
frame_of s =
    record {
      moment = s.moment;
      accepted = s.accepted;
      newest = s.newest;
      shape = s.shape;
      going = s.going;
      children = s.children;
    }

-- what a command makes of them
abbrev pub frame_command : Frame → Commanded → Frame
frame_command f (Graceful shape) =
    record f { newest = f.newest + 1; shape = shape; children = all_stopped f.children }
frame_command f (Refused reason) = f
frame_command f (GracefulStop until) =
    record f { going = Ending until; children = all_stopped f.children }
frame_command f (Stop reason) =
    record f { going = Halted reason; children = all_stopped f.children }

-- what an event makes of them
abbrev pub frame_next : Frame → Event → Frame
frame_next f (event.Accept slot) = record f { accepted = next_count f.accepted }
frame_next f (event.Park name kind) = f
frame_next f (event.Hold name) = f
frame_next f (event.Queue name) = f
frame_next f (event.Start name) = f
frame_next f (event.Answer name ask) = f
frame_next f (event.Linger name why) = f
frame_next f (event.Close name why how) = f
frame_next f (event.Ready slot) = f
frame_next f (event.Tick m) = record f { moment = m }
frame_next f (event.StartChild k) =
    record f { children = update f.children k (started_child f.newest f.shape) }
frame_next f (event.Command c) = frame_command f c
frame_next f (event.Retire k) = record f { children = update f.children k retired_child }

-- what these events make of them, one after the other
abbrev pub frames : Frame → List Event → Frame
frames f events = fold frame_next f events

-- the listener's own events tell the frame of each state, whatever others did between them
pub record OwnEventsTellTheFrame : Type 0 where
  -- an event makes of the frame what it makes of the state's
  pub step : (s : State) (e : Event) → frame_of (next s e) ≡ frame_next (frame_of s) e
  -- behind a history that passes made
  pub frame : (base : State) (f : Folded) (history : List Entry)
      → AreMade base f history
      → frame_of (after base history) ≡ frames (frame_of base) (own_events 0 history)
  -- and since an earlier one, by those that were made since
  pub since : (base : State) (f : Folded) (old new : List Entry) (events : List Event)
      → AreMade base f old
      → AreMade base f new
      → own_events 0 new ≡ own_events 0 old ++ events
      → frame_of (after base new) ≡ frames (frame_of (after base old)) events

-- whatever others did between them, what is gathered from events of the kinds that the listener alone makes is gathered from its own; and a
-- connection that it took has the name that its next event asks for
pub record OwnEventsTellWhatWasTaken : Type 0 where
  pub kinds : (base : State) (f : Folded) (history : List Entry)
      → AreMade base f history
      → filter (λ e. is_listeners e.event) history
      ≡ filter (λ e. is_listeners e.event) (entries_of 0 history)
  pub named : (base : State) (f : Folded) (history before rest : List Entry) (took next_one : Entry)
      (slot : ℕ) (name : ConnName)
      → AreMade base f history
      → entries_of 0 history ≡ before ++ took ∷ next_one ∷ rest
      → took.event ≡ event.Accept slot
      → conn_needed next_one.event ≡ Some name
      → taken_name took.reply ≡ Some name
