use Rattle.board_book.specs.Finds.{is_let_go}
use Rattle.board_book.proofs.FiledLemmas.{FindsBelow}
use Rattle.board_book.proofs.filed.FiledState.retiring.Given as goal

-- the name is found of the children so far
abbrev pub invariant-loop-child : goal.invariant-loop-child
invariant-loop-child l = FindsBelow (is_let_go l.self) l.self l.child l.found
