-- Which children a run starts at first, where the front waited at all.
use Rattle.std.specs.Prelude.{◌≢◌, ℕ, List, [], min}
use Rattle.mpm_base.specs.Front.{FrontTold}
use Rattle.conn_machine.specs.declared.event.Entry.{Entry}
use Rattle.listener_round.specs.declared.run_numbers.RunNumbers.{RunNumbers}
use Rattle.board_book.specs.Started.{BeginsWithStarts}

-- how many children a run by these numbers starts at first: as many as its shape asks for, as far as there are so many
abbrev pub first_children : RunNumbers → ℕ
first_children n = min n.shape.target n.children

-- where the front waited at all, these children were started before all else, in order of number
abbrev pub IsStartedFirst : RunNumbers → List Entry → FrontTold → Type 0
IsStartedFirst n history t = t.waits ≢ [] → BeginsWithStarts (first_children n) history
