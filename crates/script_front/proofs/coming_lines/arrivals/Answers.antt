use Rattle.std.proofs.Common.{◌≡◌, sym, ◌∙◌, rules}
use Rattle.std.specs.List.{count_by}
use Rattle.script_front.specs.PlayedFrontInside.{is_conn}
use Rattle.script_front.proofs.ComingLemmas.{names-count}
use Rattle.script_front.proofs.coming_lines.arrivals.Goals as goal

pub returns-clause-is : goal.returns-clause-is
returns-clause-is c =
    let counted : c.count.result ≡ count_by is_conn c.args.lines.now = search rules in
    counted ∙ sym (names-count c.args.lines.now)
