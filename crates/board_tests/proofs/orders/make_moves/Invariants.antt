-- The pass has no connection.
use Rattle.std.proofs.Common.{◌≡◌, ◌<◌, None}
use Rattle.board_book.specs.Book.{row_in}
use Rattle.board_tests.proofs.orders.make_moves.Given as goal

abbrev pub invariant-loop : goal.invariant-loop
invariant-loop l = record {
  who : 0 < l.board.book.passes;
  free : row_in 0 l.board.book ≡ None;
}
