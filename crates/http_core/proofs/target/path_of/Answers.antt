use Rattle.std.proofs.Common.{sym, ap, ◌∙◌}
use Rattle.std.specs.List.{before_first}
use Rattle.std.proofs.lemmas.List.{take_rest}
use Rattle.http_core.specs.Target.{begins_query, path_behind}
use Rattle.http_core.proofs.TargetLemmas.{absolute_path}
use Rattle.http_core.proofs.target.path_of.Goals as goal

pub returns-then-has_scheme : goal.returns-then-has_scheme
returns-then-has_scheme c =
    c.path_behind.ensures
    ∙ ap path_behind (c.before_byte-then-has_scheme.ensures ∙ ap (before_first begins_query) (take_rest c.args.target.now 7))
    ∙ sym (absolute_path c.args.target.now (sym c.has_fragment.ensures ∙ c.if-has_fragment.false) (sym c.begins_path.ensures ∙ c.if-begins_path.false) (sym c.has_scheme.ensures ∙ c.if-has_scheme.true))
