use Rattle.std.proofs.Common.{ℕ, List, ◌∙◌, sym, subst}
use Rattle.run_report.specs.Report.{board_report}
use Rattle.run_report.specs.EndingsInside.{EndsReport, WritesAll}
use Rattle.run_report.proofs.EndingLemmas.{lacks-report, report-of, reports-status}
use Rattle.run_report.proofs.reporting.report.Goals as goal

pub returns-in-Ok-clause-report : goal.returns-in-Ok-clause-report
returns-in-Ok-clause-report g c =
    let old = g.K.Sink.seen c.args.out.now in
    let new = g.K.Sink.seen c.write_all-whole.new.out in
    let text = c.as_slice.ensures ∙ c.in-Ok.ensures in
    let all = subst (λ (t : List ℕ). WritesAll old new t c.write_all-whole.result) text c.write_all-whole.ensures.all in
    subst (λ (n : ℕ). EndsReport old new (board_report c.args.board.now) c.args.written n) (sym c.status_after.ensures)
    (report-of old new (board_report c.args.board.now) c.write_all-whole.result c.args.written c.args.status c.requires.status all c.write_all-whole.ensures.faults)

pub returns-in-Ok-clause-status : goal.returns-in-Ok-clause-status
returns-in-Ok-clause-status g c = reports-status _ c.args.status _ c.requires.status c.status_after.ensures

pub returns-in-Ok-clause-lacking : goal.returns-in-Ok-clause-lacking
returns-in-Ok-clause-lacking g c six =
    let old = g.K.Sink.seen c.args.out.now in
    let new = g.K.Sink.seen c.write_all-whole.new.out in
    let text = c.as_slice.ensures ∙ c.in-Ok.ensures in
    let all = subst (λ (t : List ℕ). WritesAll old new t c.write_all-whole.result) text c.write_all-whole.ensures.all in
    lacks-report old new (board_report c.args.board.now) c.write_all-whole.result c.args.written c.args.status c.status_after.result all c.write_all-whole.ensures.faults
    c.status_after.ensures six
