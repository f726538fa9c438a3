-- The words from within quotes, by where the next quote is.
use Rattle.std.proofs.Common.{ap, sym, ◌∙◌}
use Rattle.conf_text.proofs.WordLemmas.{quoted, quoted_words}
use Rattle.conf_text.proofs.word.first_in_quotes.Goals as goal

pub returns-in-Some : goal.returns-in-Some
returns-in-Some c = quoted_words c.args.text.now ∙ ap quoted (sym c.in-Some.ensures)

pub returns-in-None : goal.returns-in-None
returns-in-None c = quoted_words c.args.text.now ∙ ap quoted (sym c.in-None.ensures)
