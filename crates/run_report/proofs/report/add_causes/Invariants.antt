use Rattle.std.proofs.Common.{◌≡◌, take, ◌++◌}
use Rattle.std.specs.List.{flat_map}
use Rattle.conn_machine.specs.Events.{causes}
use Rattle.run_report.specs.Report.{cause_line}
use Rattle.run_report.proofs.report.add_causes.Given as goal

-- the causes so far have their lines
abbrev pub invariant-loop-cause : goal.invariant-loop-cause
invariant-loop-cause l = l.text ≡ l.initial.text ++ flat_map (cause_line l.counts) (take l.cause-index causes)
