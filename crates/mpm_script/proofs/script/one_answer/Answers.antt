use Rattle.mpm_script.proofs.AnswerLemmas.{one_answer}
use Rattle.mpm_script.proofs.script.one_answer.Goals as goal

pub returns : goal.returns
returns c = one_answer c.one_line.ensures
