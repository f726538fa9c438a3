-- Why a call of the board is refused, and what it records.
use Rattle.std.specs.Prelude.{◌≡◌, ℕ, true, false, None, is_some}
use Rattle.conn_machine.specs.States.{is_halted, pick_child}
use Rattle.conn_machine.specs.Table.{is_vacant_at}
use Rattle.board_book.specs.declared.faults.BoardFault.{BoardFault}
use Rattle.board_book.specs.declared.faults.BoardFault.TheVariants as fault
use Rattle.board_book.specs.declared.faults.AcceptFault.{AcceptFault}
use Rattle.board_book.specs.declared.faults.AcceptFault.TheVariants as accept
use Rattle.board_book.specs.Book.{SeenBook}

-- the server goes on
pub record IsOpen (b : SeenBook) : Type 0 where
  pub going : is_halted b.state.going ≡ false

-- the call is refused for this: it had to be, unless memory lacked
abbrev pub IsRefusedFor : BoardFault → SeenBook → Type 0
IsRefusedFor fault.Halted b = is_halted b.state.going ≡ true
IsRefusedFor fault.NoMemory b = IsOpen b

-- no child takes a connection
pub record HasNoChild (b : SeenBook) : Type 0 where
  pub was_open : IsOpen b
  pub none_picked : pick_child b.state ≡ None

-- a child would take one, and no slot is vacant
pub record HasNoSlot (b : SeenBook) : Type 0 where
  pub was_open : IsOpen b
  pub picked : is_some (pick_child b.state) ≡ true
  pub none_vacant : (slot : ℕ) → is_vacant_at b.state slot ≡ false

-- no connection is taken for this
abbrev pub IsNotTakenFor : AcceptFault → SeenBook → Type 0
IsNotTakenFor accept.Halted b = is_halted b.state.going ≡ true
IsNotTakenFor accept.NoChild b = HasNoChild b
IsNotTakenFor accept.NoSlot b = HasNoSlot b
IsNotTakenFor accept.NoMemory b = IsOpen b

-- the same fault of a call that takes a connection
abbrev pub accept_fault : BoardFault → AcceptFault
accept_fault fault.Halted = accept.Halted
accept_fault fault.NoMemory = accept.NoMemory
