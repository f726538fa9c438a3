use Rattle.std.proofs.Common.{◌≡◌, take, ◌++◌}
use Rattle.std.specs.List.{flat_map}
use Rattle.board.specs.ReportLine.{line_of}
use Rattle.board.proofs.report_line.lines_after.Given as goal

-- the connections so far have their lines
abbrev pub invariant-loop-i : goal.invariant-loop-i
invariant-loop-i g l = l.text ≡ l.lines ++ flat_map line_of (take l.i l.ended)
