-- Which edition each generation of a book has, and how books keep their editions.
-- Why it is so stands in docs/DECISIONS.md: 95, Which generation keeps what.
use Rattle.std.specs.Prelude.{◌≡◌, ◌==◌, ℕ, ◌+◌, true, List, ◌++◌, find, Option, Some, option_map}
use Rattle.conn_machine.specs.declared.folded.Edition.{Edition}
use Rattle.conn_machine.specs.Events.{count_events, is_order}
use Rattle.conn_machine.specs.Folds.{begun_editions, is_in_use}
use Rattle.board_book.specs.Book.{SeenBook}

-- ## The edition of a generation

-- the editions of the generations that were in use behind what was folded, and of those that began since
abbrev pub editions_in : SeenBook → List Edition
editions_in b = b.folded.editions ++ begun_editions b.base.newest b.folded.orders b.history

-- the number of the generation's edition among these, where it is known
abbrev pub edition_among : ℕ → List Edition → Option ℕ
edition_among generation editions =
    option_map (λ e. e.edition) (find (λ e. e.generation == generation) editions)

-- the number of the generation's edition, where it is known
abbrev pub edition_of : SeenBook → ℕ → Option ℕ
edition_of b generation = edition_among generation (editions_in b)

-- how many commands `graceful` were taken or refused
abbrev pub orders_in : SeenBook → ℕ
orders_in b = b.folded.orders + count_events is_order b.history

-- each generation in use has an edition
abbrev pub UsedHaveEditions : SeenBook → Type 0
UsedHaveEditions b =
    (generation : ℕ)
    → is_in_use b.state generation ≡ true
    → (number : ℕ) × (edition_of b generation ≡ Some number)

-- ## How books go on

-- each generation that has an edition in the old book has it in the new one
abbrev pub KeepsEditions : SeenBook → SeenBook → Type 0
KeepsEditions old new =
    (generation number : ℕ)
    → edition_of old generation ≡ Some number
    → edition_of new generation ≡ Some number
