-- The first line, by where the first line feed is.
use Rattle.conf_text.proofs.LineLemmas.{cut_some, cut_none}
use Rattle.conf_text.proofs.line.first_line.Goals as goal

pub returns-in-Some-clause-lines : goal.returns-in-Some-clause-lines
returns-in-Some-clause-lines c = rw c.without_return.ensures (cut_some c.args.text.now _ c.in-Some.ensures)

pub returns-in-None-clause-lines : goal.returns-in-None-clause-lines
returns-in-None-clause-lines c = cut_none c.args.text.now c.requires c.in-None.ensures
