use Rattle.std.proofs.Common.{◌≡◌, IfOk, subst}
use Rattle.run_report.specs.Report.{text_of}
use Rattle.run_report.specs.declared.report.Tally.{Tally}
use Rattle.run_report.proofs.reporting.report_of.Goals as goal

pub returns : goal.returns
returns g c = subst (λ (t : Tally). IfOk c.report_text.result (λ text. text ≡ text_of t)) c.in_ok-tally.ensures c.report_text.ensures
