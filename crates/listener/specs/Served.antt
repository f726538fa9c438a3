-- By what the connections of a run were served that ended: each by the edition of its generation.
use Rattle.std.specs.Prelude.{List, [], ◌∷◌, ◌++◌, ⊤}
use Rattle.conn_state.specs.Answered.{SeenEnded}
use Rattle.conn_state.specs.Known.{KnownOutside}
use Rattle.board.specs.Board.{SeenBoard}
use Rattle.board_book.specs.Book.{SeenBook}
use Rattle.board.specs.Editions.{HasItsEdition}
use Rattle.listener_round.specs.Generations.{Opening, known_editions}
use Rattle.listener_round.specs.Folded.{HasFolded, whole_book, all_entries}
use Rattle.listener_round.specs.declared.run_numbers.RunNumbers.{RunNumbers}

-- all connections of a run that ended: those that ended in what was folded, and behind them the kept ones
abbrev pub all_ended : (n : RunNumbers) (b : SeenBoard) → HasFolded n b.book → List SeenEnded
all_ended n b before = before.ended ++ b.ended

-- each of the connections was served by the edition of its generation, as the book has that
abbrev pub AreServedIn : KnownOutside → SeenBook → List SeenEnded → Type 0
AreServedIn k b [] = ⊤
AreServedIn k b (e ∷ ended) = HasItsEdition k b e.generation e.limits e.site × AreServedIn k b ended

-- each connection that ended in a run by these numbers, folded and kept ones, was served by the edition of its generation
abbrev pub ServesByEditions : Opening → (n : RunNumbers) (b : SeenBoard) → HasFolded n b.book → Type 0
ServesByEditions o n b before =
    AreServedIn (known_editions o) (whole_book n (all_entries n b.book before)) (all_ended n b before)
