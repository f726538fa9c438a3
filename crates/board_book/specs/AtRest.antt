-- When nothing is left to be done.
use Rattle.std.specs.Prelude.{◌≡◌, ℕ, true, false, None, Some, slice_get}
use Rattle.conn_machine.specs.declared.row.Row.{Row}
use Rattle.conn_machine.specs.declared.state.State.{State}
use Rattle.conn_machine.specs.Table.{may_retire}
use Rattle.board_book.specs.Finds.{has_to_be_drained, is_due, is_let_go, is_quiet, startable}

-- ## Nothing left to be done

-- no connection has to be served, for which a worker is free
abbrev pub NoneDue : State → Type 0
NoneDue s = (slot : ℕ) (r : Row) → slice_get s.rows slot ≡ Some r → is_due s slot r ≡ false

-- no connection that lingers is signalled
abbrev pub NoneToDrain : State → Type 0
NoneToDrain s = (slot : ℕ) (r : Row) → slice_get s.rows slot ≡ Some r → has_to_be_drained s slot r ≡ false

-- no connection is kept alive by a child that stops, with nothing to come
abbrev pub NoneToLetGo : State → Type 0
NoneToLetGo s = (slot : ℕ) (r : Row) → slice_get s.rows slot ≡ Some r → is_let_go s slot r ≡ false

-- no connection is in hand, has to be served or drained, or retires, and no child waits to be started or let go of
pub record IsAtRest (s : State) : Type 0 where
  pub quiet : is_quiet s ≡ true
  pub served : NoneDue s
  pub drained : NoneToDrain s
  pub let_go : NoneToLetGo s
  pub kept : (k : ℕ) → may_retire s k ≡ false
  pub started : startable s ≡ None
