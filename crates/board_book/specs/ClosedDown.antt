-- How a run ends: nothing is left, or the server was broken off.
use Rattle.std.specs.Prelude.{◌≡◌, ℕ, true, false}
use Rattle.std.specs.List.{list_any}
use Rattle.conn_machine.specs.declared.state.State.{State}
use Rattle.conn_machine.specs.Rows.{is_live}
use Rattle.conn_machine.specs.Children.{child_at, is_empty}
use Rattle.conn_machine.specs.declared.event.Why.TheVariants as why
use Rattle.conn_machine.specs.declared.state.Going.{Going}
use Rattle.conn_machine.specs.declared.state.Going.TheVariants.{Halted}

-- ## How a run ends

-- no connection is live
abbrev pub HasNoLive : State → Type 0
HasNoLive s = list_any is_live s.rows ≡ false

-- each child is gone
abbrev pub AllEmpty : State → Type 0
AllEmpty s = (k : ℕ) → is_empty (child_at s.children k).phase ≡ true

-- no connection is live, and each child is gone
pub record IsClosedDown (s : State) : Type 0 where
  pub live : HasNoLive s
  pub empty : AllEmpty s

-- ## Both

-- the server stopped for want of memory, so that the listener may not have done all that a wait asked
abbrev pub IsBrokenOff : Going → Type 0
IsBrokenOff going = going ≡ Halted why.NoMemory
