use Rattle.std.proofs.Common.{sym, ap, ◌∙◌}
use Rattle.std.proofs.lemmas.List.{take_rest}
use Rattle.http_core.specs.Target.{authority_of, before_query}
use Rattle.http_core.proofs.TargetLemmas.{absolute_host}
use Rattle.http_core.proofs.target.named_host.Goals as goal

pub returns-then-has_scheme : goal.returns-then-has_scheme
returns-then-has_scheme c =
    c.before_byte-then-has_scheme.ensures ∙ ap authority_of (c.before_byte.ensures ∙ ap before_query (take_rest c.args.target.now 7))
    ∙ sym (absolute_host c.args.target.now c.args.host.now (sym c.has_scheme.ensures ∙ c.if-has_scheme.true))
