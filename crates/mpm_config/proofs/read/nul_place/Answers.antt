-- A place that is not found is taken as the length.
use Rattle.std.proofs.Common.{◌∙◌, ◌==◌, ap, length, unwrap_or}
use Rattle.conf_text.proofs.WordLemmas.{position-or}
use Rattle.mpm_config.proofs.read.nul_place.Goals as goal

pub returns : goal.returns
returns c = c.unwrap_or.ensures ∙ ap (λ o. unwrap_or o (length c.args.bytes.now)) c.place_of.ensures ∙ position-or (λ b. b == 0) c.args.bytes.now
