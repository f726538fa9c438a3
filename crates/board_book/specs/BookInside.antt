-- What helps to prove, and no public contract reaches, of: What a board keeps of its history.
use Rattle.std.specs.Prelude.{◌≡◌, ℕ, ◌+◌, ◌<◌, ◌≤◌, ◌^◌, List, length, Option, None, Some}
use Rattle.conn_machine.specs.declared.event.Entry.{Entry}
use Rattle.conn_machine.specs.declared.folded.Edition.{Edition}
use Rattle.conn_machine.specs.declared.folded.Folded.{Folded}
use Rattle.conn_machine.specs.declared.state.State.{State}
use Rattle.conn_machine.specs.Folds.{CountsWithin, HasPlacesFor}
use Rattle.conn_machine.specs.Runs.{after, first_row, IsHistory}
use Rattle.conn_machine.specs.Made.{AreMade, AreOfPasses}
use Rattle.conn_machine.specs.Passes.{EachHasItsOwn}
use Rattle.conn_machine.specs.Sizes.{IsSized}
use Rattle.conn_machine.specs.Sound.{IsSound}
use Rattle.board_book.specs.declared.ahead.Ahead.{Ahead}
use Rattle.board_book.specs.AheadInside.{IsAhead}
use Rattle.board_book.specs.EditionsInside.{HasEditions}
use Rattle.board_book.specs.RoomInside.{owed_entries}

-- the lines of a record where it takes on further ones, or none
abbrev pub lines_then : Option (List ℕ) → List ℕ → List ℕ
lines_then None lines = lines
lines_then (Some more) lines = more

-- the record is one that folds made for so many passes: it has a place for each, and counts within its entries
pub record IsFoldedFor (passes : ℕ) (f : Folded) : Type 0 where
  pub places : HasPlacesFor passes f
  pub within : CountsWithin f

-- the history is one of the machine, from its base to its state, behind what was folded, and the states are sound; each entry is
-- one that its pass may make, of so many, and before it each pass had a connection of its own, or none; the numbers of the record that a
-- fold would make are known, and the editions that were in use or began, of which it would keep those in use; and there is room for what
-- must follow, which can be counted
pub record IsKept (passes : ℕ) (base : State) (f : Folded) (history : List Entry) (state : State)
    (ahead : Ahead) (editions : List Edition) (room : ℕ) : Type 0 where
  pub folded : IsFoldedFor passes f
  pub is_history : IsHistory base f history
  pub made : AreMade base f history
  pub few : AreOfPasses passes history
  pub own : EachHasItsOwn base (first_row f)
  pub state_is : after base history ≡ state
  pub opened : IsSound base
  pub sound : IsSound state
  pub ahead_is : IsAhead f history ahead
  pub has_editions : HasEditions base f history editions
  pub sized : IsSized state
  pub has_room : length history + owed_entries state ≤ room
  pub countable : f.entries + length history + owed_entries state < 2 ^ 63
