use Rattle.std.proofs.Common.{◌≡◌, take, ◌++◌}
use Rattle.std.specs.List.{flat_map}
use Rattle.board.specs.ReportLine.{further_code}
use Rattle.board.proofs.report_line.add_codes.Given as goal

-- the further codes so far are added
abbrev pub invariant-loop-code : goal.invariant-loop-code
invariant-loop-code l = l.text ≡ l.initial.text ++ flat_map further_code (take l.code-index l.rest)
