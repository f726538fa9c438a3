-- The search in the code's table is the search among the names.
use Rattle.std.proofs.Common.{◌∙◌, ap}
use Rattle.mpm_config.specs.Directive.{directive_among}
use Rattle.mpm_config.proofs.NameLemmas.{same_search}
use Rattle.mpm_config.proofs.directive.among.Goals as goal

pub returns : goal.returns
returns c names same =
    c.first_among.ensures ∙ same_search c.args.word.now c.args.spellings.now ∙ ap (λ ns. directive_among ns c.args.word.now) same
