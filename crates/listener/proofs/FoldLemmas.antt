-- What stays of the passes where a history is folded.
use Rattle.std.proofs.Common.{ℕ, List, ◌∙◌}
use Rattle.conn_machine.specs.Folds.{GoesOnFrom, fold_of}
use Rattle.board_book.specs.Book.{SeenBook, folded_book}
use Rattle.rounds.specs.PartsInside.{NoneHas}

-- no pass has a connection behind a fold, where none had one before
pub none-folded : (lines : List (List ℕ)) (b : SeenBook) → ((p : ℕ) → GoesOnFrom p b.folded b.history (fold_of b.base b.history lines b.folded))
    → NoneHas b → NoneHas (folded_book lines b)
none-folded lines b goes free who = (goes who).row ∙ free who
