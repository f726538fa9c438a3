-- The size of a state.
use Rattle.std.specs.Prelude.{◌≡◌, ◌≤◌, length}
use Rattle.conn_machine.specs.declared.state.State.{State}
use Rattle.mpm_base.specs.Moment.{greatest_moment}

-- the state has a size that the machine takes, and its moment is in range
pub record IsSized (s : State) : Type 0 where
  pub rows : length s.rows ≤ 8192
  pub children : length s.children ≤ 32
  pub signals : length s.signals ≡ length s.rows
  pub moment : s.moment ≤ greatest_moment

-- there are as many rows, signals and children as before
pub record HasSizesOf (old new : State) : Type 0 where
  pub rows : length new.rows ≡ length old.rows
  pub children : length new.children ≡ length old.children
  pub signals : length new.signals ≡ length old.signals
