-- The children, and the numbers of a generation.
use Rattle.std.specs.Prelude.{ℕ, Bool, true, false, List, map, count_by, if◌then◌else◌, slice_index_or}
use Rattle.mpm_base.specs.declared.shape.Shape.{Shape}
use Rattle.conn_machine.specs.declared.child.ChildPhase.{ChildPhase}
use Rattle.conn_machine.specs.declared.child.ChildPhase.TheVariants.{Empty, Running, Stopping}
use Rattle.conn_machine.specs.declared.child.Child.{Child}

-- the child is not there
abbrev pub is_empty : ChildPhase → Bool
is_empty Empty = true
is_empty Running = false
is_empty Stopping = false

-- the child takes connections
abbrev pub is_running : ChildPhase → Bool
is_running Empty = false
is_running Running = true
is_running Stopping = false

-- the child serves the connections that it has, and takes no more
abbrev pub is_stopping : ChildPhase → Bool
is_stopping Empty = false
is_stopping Running = false
is_stopping Stopping = true

-- the numbers of no generation
abbrev pub no_shape : Shape
no_shape =
    record {
      threads = 0;
      factor = 0;
      read_ms = 0;
      keep_ms = 0;
      keep = false;
      most = 0;
      target = 0;
      children = 0;
      whole_ms = 0;
    }

-- a child that was never started
abbrev pub no_child : Child
no_child = record { phase = Empty; generation = 0; shape = no_shape }

-- the child of that number
abbrev pub child_at : List Child → ℕ → Child
child_at children k = slice_index_or children k no_child

-- a child that ran takes no more connections
abbrev pub stopped_child : Child → Child
stopped_child c = if is_running c.phase then record c { phase = Stopping } else c

-- no child takes connections any more
abbrev pub all_stopped : List Child → List Child
all_stopped children = map stopped_child children

-- how many children run
abbrev pub running_count : List Child → ℕ
running_count children = count_by (λ c. is_running c.phase) children

-- the child begins to take connections
abbrev pub started_child : ℕ → Shape → Child → Child
started_child generation shape c =
    record { phase = Running; generation = generation; shape = shape }

-- the child is gone
abbrev pub retired_child : Child → Child
retired_child c = record c { phase = Empty; shape = record c.shape { threads = 0 } }
