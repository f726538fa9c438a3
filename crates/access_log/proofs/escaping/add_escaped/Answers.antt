use Rattle.std.proofs.Common.{◌++◌, ap, sym, ◌∙◌}
use Rattle.std.proofs.lemmas.Result.{on_ok_weaker}
use Rattle.access_log.proofs.PlainLemmas.{plain_line}
use Rattle.access_log.proofs.escaping.add_escaped.Goals as goal

pub returns-then-are_plain : goal.returns-then-are_plain
returns-then-are_plain c =
    let same = plain_line c.args.line.now (sym c.are_plain.ensures ∙ c.if-are_plain.true) in
    on_ok_weaker c.add.result (λ e. e ∙ ap (λ text. c.args.out.now ++ text) (sym same)) c.add.ensures.ok
