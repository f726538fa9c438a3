use Rattle.run_laws.proofs.DialLemmas.{refused-ends, sent-well, unanswered-ends, undialled-fails, unopened-fails}
use Rattle.run_laws.proofs.ExactLemmas.{config-ends, large-script-ends, missing-ends, plays-opens, serves-opens, site-ends, tests-unwritten, tests-well, uncontrolled-ends, unfit-script-ends}
use Rattle.run_laws.proofs.OpenedLemmas.{played-exactly, served-exactly}
use Rattle.run_laws.proofs.WayLemmas.{ended-unknown}
use Rattle.run_laws.proofs.statuses_are_exact.Goals as goal

pub returns : goal.returns
returns c o is =
    let one = c.words_have_one_form.ensures in
    let answer = c.one_answer.ensures in
    record {
      unknown = ended-unknown o is;
      missing = missing-ends one answer o is;
      large_script = large-script-ends one answer o is;
      unfit_script = unfit-script-ends one answer o is;
      misconfigured = config-ends one answer o is;
      site_refused = site-ends one answer o is;
      uncontrolled = uncontrolled-ends one answer o is;
      tested = tests-well one answer o is;
      untold = tests-unwritten one answer o is;
      refused = refused-ends one o is;
      sent = sent-well one o is;
      unanswered = unanswered-ends one o is;
      undialled = undialled-fails one o is;
      plays = plays-opens one answer o is;
      serves = serves-opens one answer o is;
      played = played-exactly o is;
      served = served-exactly o is;
      unopened = unopened-fails o is;
    }
