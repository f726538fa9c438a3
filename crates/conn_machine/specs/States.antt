-- What is said of a state of the machine.
use Rattle.std.specs.Prelude.{◌==◌, ℕ, ◌+◌, ◌-◌, Bool, true, false, not, ◌&&◌, List, [], map, min, nat_le, replicate, Option, None, Some, slice_index_or}
use Rattle.std.specs.List.{enumerate_from, list_any}
use Rattle.mpm_base.specs.Moment.{greatest_moment}
use Rattle.mpm_base.specs.declared.shape.Shape.{Shape}
use Rattle.admission.specs.declared.ChildCount.{ChildCount}
use Rattle.admission.specs.Admission.{pick_of}
use Rattle.conn_machine.specs.declared.row.Place.TheVariants.{Vacant}
use Rattle.conn_machine.specs.declared.row.Row.{Row}
use Rattle.conn_machine.specs.declared.child.Child.{Child}
use Rattle.conn_machine.specs.declared.state.Going.{Going}
use Rattle.conn_machine.specs.declared.state.Going.TheVariants.{Serving, Ending, Halted}
use Rattle.conn_machine.specs.declared.state.State.{State}
use Rattle.conn_machine.specs.Rows.{carried_count, open_count, is_parked}
use Rattle.conn_machine.specs.Children.{child_at, is_empty, is_running, no_child}

-- so many milliseconds after the moment, as far as moments go
abbrev pub later : ℕ → ℕ → ℕ
later moment ms = min (moment + ms) greatest_moment

-- the server takes connections
abbrev pub is_serving : Going → Bool
is_serving Serving = true
is_serving (Ending until) = false
is_serving (Halted why) = false

-- the server has stopped
abbrev pub is_halted : Going → Bool
is_halted Serving = false
is_halted (Ending until) = false
is_halted (Halted why) = true

-- the server ends, and the moment until which it may has come
abbrev pub is_over : ℕ → Going → Bool
is_over moment Serving = false
is_over moment (Ending None) = false
is_over moment (Ending (Some until)) = nat_le until moment
is_over moment (Halted why) = false

-- some child isn't gone
abbrev pub is_staffed : State → Bool
is_staffed s = list_any (λ c. not (is_empty c.phase)) s.children

-- a graceful stop is at its end: the server takes no connections, hasn't stopped, and each child is gone. (While the server takes connections
-- some child runs when a command line is read, as children are started before and let go of behind that.)
abbrev pub is_at_its_end : State → Bool
is_at_its_end s = not (is_serving s.going) && not (is_halted s.going) && not (is_staffed s)

-- the signal of the slot is set
abbrev pub is_signalled : State → ℕ → Bool
is_signalled s slot = slice_index_or s.signals slot false

-- the child of a row
abbrev pub child_of : State → Row → Child
child_of s r = child_at s.children r.child

-- the workers of the child that carry nothing
abbrev pub idle_count : State → ℕ × Child → ℕ
idle_count s p = p.1.shape.threads - carried_count s.rows p.0

-- what the choice of a child looks at: it must run and be of the newest generation
abbrev pub child_count : State → ℕ × Child → ChildCount
child_count s p =
    record {
      child = p.0;
      running = is_running p.1.phase && p.1.generation == s.newest;
      t = p.1.shape.threads;
      factor = p.1.shape.factor;
      idle = idle_count s p;
      count = open_count s.rows p.0;
    }

-- what the choice of a child looks at, of each child
abbrev pub child_counts : State → List ChildCount
child_counts s = map (child_count s) (enumerate_from 0 s.children)

-- the child that takes the next connection
abbrev pub pick_child : State → Option ℕ
pick_child s = pick_of (child_counts s)

-- the row waits, and its deadline is at or before the moment
abbrev pub is_overdue : ℕ → Row → Bool
is_overdue moment r = is_parked r.place && nat_le r.deadline moment

-- a slot that was never used
abbrev pub unused_row : Row
unused_row =
    record {
      life = 0;
      arrival = 0;
      child = 0;
      generation = 0;
      place = Vacant;
      from = None;
      deadline = 0;
      began = None;
      mid = false;
      last = false;
      short = false;
      cause = None;
      notes = [];
      waits = [];
    }

-- the state in which a server opens
abbrev pub opening_state : ℕ → ℕ → Shape → State
opening_state slots children shape =
    record {
      rows = replicate slots unused_row;
      children = replicate children no_child;
      newest = 0;
      shape = shape;
      moment = 0;
      signals = replicate slots false;
      going = Serving;
      accepted = 0;
    }
