-- What helps to prove, and no public contract reaches, of: Which edition each generation of a book has.
use Rattle.std.specs.Prelude.{◌≡◌, ℕ, ◌<◌, true, List, [], ◌∷◌, ◌++◌, Some, if◌then◌else◌}
use Rattle.conn_machine.specs.declared.event.Entry.{Entry}
use Rattle.conn_machine.specs.declared.event.Event.{Event}
use Rattle.conn_machine.specs.declared.folded.Edition.{Edition}
use Rattle.conn_machine.specs.declared.folded.Folded.{Folded}
use Rattle.conn_machine.specs.declared.state.State.{State}
use Rattle.conn_machine.specs.Events.{begins_generation}
use Rattle.conn_machine.specs.Folds.{HaveBegun, begun_editions, is_in_use}
use Rattle.board_book.specs.Editions.{edition_among}

-- where the event begins a generation, there is room behind so many editions for one more
abbrev pub HasRoomFor : Event → ℕ → ℕ → Type 0
HasRoomFor e many room = begins_generation e ≡ true → many < room

-- behind the editions that of the generation which the event begins, where it begins one
abbrev pub with_begun : Event → ℕ → ℕ → List Edition → List Edition
with_begun e generation order editions =
    editions
    ++ (if begins_generation e
    then record { generation = generation; edition = order } ∷ []
    else [])

-- of a history behind a record these are the editions of the record and those that began since; the record's are of generations that had
-- begun before the history, and each generation in use before it has one there
pub record HasEditions (base : State) (f : Folded) (history : List Entry)
    (editions : List Edition) : Type 0 where
  pub all : editions ≡ f.editions ++ begun_editions base.newest f.orders history
  pub begun : HaveBegun base f
  pub used : (generation : ℕ)
      → is_in_use base generation ≡ true
      → (number : ℕ) × (edition_among generation f.editions ≡ Some number)
