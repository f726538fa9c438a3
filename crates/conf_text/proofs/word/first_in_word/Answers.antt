-- The words from within a word, by where the next blank is.
use Rattle.conf_text.proofs.WordLemmas.{bare_words}
use Rattle.conf_text.proofs.word.first_in_word.Goals as goal

pub returns : goal.returns
returns c = rw (c.at_blank.ensures.before, c.at_blank.ensures.after) (bare_words c.args.text.now)
