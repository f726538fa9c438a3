-- What an order makes of the table, whatever others do meanwhile: a generation begins, a restart is refused, or a graceful stop begins.
use Rattle.std.specs.Prelude.{◌≡◌, ℕ, ◌+◌, [], ◌∷◌, None, Some, if◌then◌else◌, ⊤}
use Rattle.conn_machine.specs.declared.event.Commanded.{Commanded}
use Rattle.conn_machine.specs.declared.event.Commanded.TheVariants.{Graceful, GracefulStop, Refused, Stop}
use Rattle.conn_machine.specs.declared.event.Event.TheVariants as event
use Rattle.conn_machine.specs.Events.{is_order}
use Rattle.conn_machine.specs.Frames.{frame_command, frame_of}
use Rattle.table_rule.specs.declared.view.View.{View}
use Rattle.board_book.specs.Editions.{edition_of, orders_in}
use Rattle.board_turns.specs.Books.{book_of, state_of}
use Rattle.listener_parts.specs.Did.{Did, LeavesAlone}

-- how many commands `graceful` were taken or refused behind the order, where there were so many before
abbrev pub orders_behind : Commanded → ℕ → ℕ
orders_behind order orders = if is_order (event.Command order) then orders + 1 else orders

-- a generation that the order began has the number of the order as that of its edition
abbrev pub BeginsEdition : Commanded → View → View → Type 0
BeginsEdition (Graceful shape) old new =
    edition_of (book_of new) ((state_of old).newest + 1) ≡ Some (orders_in (book_of old) + 1)
BeginsEdition (Refused reason) old new = ⊤
BeginsEdition (GracefulStop until) old new = ⊤
BeginsEdition (Stop reason) old new = ⊤

-- the order was done: of what the listener alone decides that has changed which the order changes
pub record DoesOrder (order : Commanded) (old new : View) : Type 0 where
  pub did : Did (event.Command order ∷ []) None old new
  pub frame : frame_of (state_of new) ≡ frame_command (frame_of (state_of old)) order
  pub orders : orders_in (book_of new) ≡ orders_behind order (orders_in (book_of old))
  pub edition : BeginsEdition order old new

-- nothing was done
pub record DoesNoOrder (old new : View) : Type 0 where
  pub did : Did [] None old new
  pub rest : LeavesAlone (state_of old) (state_of new)
  pub orders : orders_in (book_of new) ≡ orders_in (book_of old)
