use Rattle.command_answers.proofs.PageLemmas.{page}
use Rattle.command_answers.proofs.laws.status_answers_are_pages.Goals as goal

pub returns : goal.returns
returns c = page
