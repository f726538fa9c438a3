use Rattle.command_words.specs.Invocations.{option_values}
use Rattle.command_words.proofs.FormLemmas.{one-form}
use Rattle.command_words.proofs.laws.words_have_one_form.Goals as goal

pub returns : goal.returns
returns c words form other h k = one-form (option_values words) form other h.found k.found
