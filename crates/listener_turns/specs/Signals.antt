-- Which events signal what a wait of the front gave.
use Rattle.std.specs.Prelude.{◌≡◌, ℕ, List, ◌∷◌, ◌++◌, map, length}
use Rattle.conn_machine.specs.declared.event.Event.{Event}
use Rattle.conn_machine.specs.declared.event.Event.TheVariants as event
use Rattle.table_rule.specs.declared.view.View.{View}
use Rattle.board_book.specs.Moments.{known_slots}
use Rattle.board_turns.specs.Books.{state_of}
use Rattle.board_turns.specs.Turns.{HadATurn}

-- the events by which those of these slots are signalled that a table of so many has
abbrev pub ready_events : ℕ → List ℕ → List Event
ready_events count slots = map event.Ready (known_slots count slots)

-- in one turn those of these slots were signalled that the table has
abbrev pub SignalsAll : List ℕ → View → View → Type 0
SignalsAll slots old new = HadATurn (ready_events (length (state_of new).rows) slots) old new

-- those before one of them were, and nothing else
pub record SignalsFirst (slots : List ℕ) (old new : View) : Type 0 where
  pub first : List ℕ
  pub slot : ℕ
  pub rest : List ℕ
  pub slots_are : slots ≡ first ++ slot ∷ rest
  pub signals : SignalsAll first old new
