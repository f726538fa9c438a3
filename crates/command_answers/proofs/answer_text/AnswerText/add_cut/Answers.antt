use Rattle.std.proofs.Common.{◌≡◌, ◌∙◌, arith}
use Rattle.command_answers.proofs.CutLemmas.{cut}
use Rattle.command_answers.proofs.answer_text.AnswerText.add_cut.Goals as goal

pub returns-clause-is : goal.returns-clause-is
returns-clause-is c = grind (arith, c.add.ensures.is, cut c.args.self.now c.args.bytes.now 511 c.requires)
