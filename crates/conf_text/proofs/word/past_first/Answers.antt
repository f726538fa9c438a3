use Rattle.conf_text.proofs.WordLemmas.{first_boundary}
use Rattle.conf_text.proofs.word.past_first.Goals as goal

pub split_at-requires : goal.split_at-requires
split_at-requires c = first_boundary c.args.text.now c.utf8.text c.requires.some c.requires.ascii
