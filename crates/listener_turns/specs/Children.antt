-- In which order children are started.
use Rattle.std.specs.Prelude.{◌≡◌, ℕ, List, [], ◌∷◌, Some, ⊤}
use Rattle.conn_machine.specs.declared.event.Event.TheVariants as event
use Rattle.conn_machine.specs.declared.state.State.{State}
use Rattle.conn_machine.specs.Table.{next}
use Rattle.board_book.specs.Finds.{startable}

-- from the state on these children start, one behind the other, each the lowest that is gone then, while fewer run than should
abbrev pub AreStarted : State → List ℕ → Type 0
AreStarted s [] = ⊤
AreStarted s (k ∷ children) =
    (startable s ≡ Some k) × AreStarted (next s (event.StartChild k)) children
