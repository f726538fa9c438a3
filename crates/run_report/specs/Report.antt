-- The report of a run: what it counts, and its text.
use Rattle.board.specs.Board.{SeenBoard}
use Rattle.board.specs.ReportLine.{cause_word, line_of}
use Rattle.conn_machine.specs.Events.{causes, count_events, is_accept, is_answer, is_close, is_start_child}
use Rattle.conn_machine.specs.Folds.{causes_after, lines_after}
use Rattle.conn_machine.specs.declared.event.Entry.{Entry}
use Rattle.conn_machine.specs.declared.folded.Folded.{Folded}
use Rattle.conn_state.specs.Answered.{SeenEnded}
use Rattle.mpm_base.specs.Cause.{cause_number}
use Rattle.mpm_base.specs.declared.conn.Cause.{Cause}
use Rattle.run_report.specs.declared.report.Tally.{Tally}
use Rattle.std.specs.Fmt.{decimal}
use Rattle.std.specs.List.{flat_map}
use Rattle.std.specs.Prelude.{ℕ, ◌+◌, List, ◌++◌, map, codes, slice_index}

-- ## The report

-- the numbers of the record and of the history behind it, and a line for each of the first 64 connections that ended
abbrev pub tally_of : Folded → List Entry → ℕ → List SeenEnded → Tally
tally_of f history newest ended =
    record {
      generation = newest;
      accepted = f.accepted + count_events is_accept history;
      closed = f.closed + count_events is_close history;
      responses = f.responses + count_events is_answer history;
      causes = causes_after history f.causes;
      children = f.children + count_events is_start_child history;
      lines = lines_after (map line_of ended) f.closed f.lines;
    }

-- a line with a name and a number
abbrev pub count_line : List ℕ → ℕ → List ℕ
count_line name count = name ++ codes ": " ++ decimal count ++ codes "\n"

-- the line of a cause: its number is the one at its place
abbrev pub cause_line : List ℕ → Cause → List ℕ
cause_line counts why = count_line (cause_word why) (slice_index counts (cause_number why))

-- the text of a report
abbrev pub text_of : Tally → List ℕ
text_of t =
    count_line (codes "Generation") t.generation ++ count_line (codes "Accepted") t.accepted
    ++ count_line (codes "Closed") t.closed ++ count_line (codes "Responses") t.responses
    ++ flat_map (cause_line t.causes) causes ++ count_line (codes "ChildrenStarted") t.children ++ t.lines

-- the report of a run
abbrev pub report_of : Folded → List Entry → ℕ → List SeenEnded → List ℕ
report_of f history newest ended = text_of (tally_of f history newest ended)

-- the report of a board: of the record of what was folded, of the history behind it, and of the connections that ended in that
abbrev pub board_report : SeenBoard → List ℕ
board_report b = report_of b.book.folded b.book.history b.book.state.newest b.ended
