-- The pass has no connection.
use Rattle.std.proofs.Common.{◌≡◌, ◌<◌, None}
use Rattle.board_book.specs.Book.{row_in}
use Rattle.board_tests.proofs.orders.take_steps.Given as goal

abbrev pub invariant-loop-step : goal.invariant-loop-step
invariant-loop-step l = record {
  who : 0 < l.board.book.passes;
  free : row_in 0 l.board.book ≡ None;
}
