-- The pass has the connection, which may be read, answered and written.
use Rattle.std.proofs.Common.{◌≡◌, ◌<◌, true, Some}
use Rattle.conn_state.specs.declared.turn.LastLinger.TheVariants as linger
use Rattle.conn_state.specs.Conn.{is_usable}
use Rattle.board_book.specs.Book.{row_in}
use Rattle.board.specs.Fits.{IsOf}
use Rattle.board_tests.proofs.hand.serve_on.Given as goal

abbrev pub invariant-loop : goal.invariant-loop
invariant-loop l = record {
  who : 0 < l.board.book.passes;
  row : row_in 0 l.board.book ≡ Some l.conn.name;
  fits : IsOf l.board.book.state l.conn;
  usable : is_usable l.conn.turn ≡ true;
  open_side : l.conn.linger ≡ linger.Open;
}
