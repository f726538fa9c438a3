use Rattle.std.proofs.Common.{◌≡◌, ◌++◌, ℕ, List, get_or, ap, ◌∙◌}
use Rattle.mpm_base.specs.Cause.{cause_number}
use Rattle.mpm_base.specs.declared.conn.Cause.{Cause}
use Rattle.mpm_base.specs.declared.conn.Cause.TheVariants.{ClientDone}
use Rattle.conn_machine.specs.Events.{causes}
use Rattle.board.specs.ReportLine.{cause_word}
use Rattle.run_report.specs.Report.{cause_line, count_line}
use Rattle.run_report.proofs.ReportLemmas.{lines_more}
use Rattle.run_report.proofs.report.add_causes.Goals as goal

-- what is added is the line of the cause
added_line : (counts before after word : List ℕ) (place : ℕ) (why : Cause) → after ≡ before ++ count_line word (get_or counts place 0)
    → word ≡ cause_word why → place ≡ cause_number why → after ≡ before ++ cause_line counts why
added_line counts before after word place why added named at =
    added ∙ ap (λ w. before ++ count_line w (get_or counts place 0)) named
    ∙ ap (λ p. before ++ count_line (cause_word why) (get_or counts p 0)) at

pub loop-cause-preserved : goal.loop-cause-preserved
loop-cause-preserved c =
    lines_more (cause_line c.args.counts.now) causes c.loop-cause.cause-index ClientDone c.args.text.now c.loop-cause.text c.add_count.new.text
    c.loop-cause-test.true c.loop-cause.invariant
    (added_line c.args.counts.now c.loop-cause.text c.add_count.new.text c.cause_word.result.now c.number.result
    (get_or causes c.loop-cause.cause-index ClientDone) c.in_ok-add_count.ensures c.cause_word.ensures c.number.ensures.is)
