use Rattle.std.proofs.Common.{refl}
use Rattle.run_report.proofs.counting.tally.Goals as goal

pub returns : goal.returns
returns g c =
    rw (
      c.state.ensures,
      c.count_accepts.ensures,
      c.count_closes.ensures,
      c.count_answers.ensures,
      c.count_causes.ensures,
      c.count_starts.ensures,
      c.in_ok-lines_after.ensures,
      c.ended.ensures,
      c.folded-folded.ensures,
      c.history-history.ensures,
    ) refl
