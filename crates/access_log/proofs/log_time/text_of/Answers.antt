use Rattle.std.proofs.Common.{ap, ◌∙◌}
use Rattle.access_log.proofs.TextLemmas.{taken, taken_is}
use Rattle.access_log.proofs.log_time.text_of.Goals as goal

pub returns : goal.returns
returns c = ap taken c.to_bytes-text.ensures ∙ taken_is c.args.date.now
