-- A place that is not found is taken as the length.
use Rattle.std.proofs.Common.{◌∙◌, ap, length, unwrap_or}
use Rattle.conf_text.specs.Words.{is_blank}
use Rattle.conf_text.proofs.WordLemmas.{position-or}
use Rattle.conf_text.proofs.word.blank_place.Goals as goal

pub returns : goal.returns
returns c = c.unwrap_or.ensures ∙ ap (λ o. unwrap_or o (length c.args.text.now)) c.blank_at.ensures ∙ position-or is_blank c.args.text.now
