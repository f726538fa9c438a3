-- What a board tells as a value that keeps a history.
use Rattle.std.specs.Prelude.{map}
use Rattle.conn_machine.specs.declared.kept.Ledger.{Ledger}
use Rattle.board.specs.Board.{SeenBoard}
use Rattle.board.specs.ReportLine.{line_of}

-- its history, with the state before it and the record of what was folded; its texts are the report lines of the connections that ended
abbrev pub ledger_of : SeenBoard → Ledger
ledger_of b =
    record {
      base = b.book.base;
      folded = b.book.folded;
      history = b.book.history;
      texts = map line_of b.ended;
      passes = b.book.passes;
    }
