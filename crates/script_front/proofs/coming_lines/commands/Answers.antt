use Rattle.std.proofs.Common.{◌≡◌, sym, ◌∙◌, rules}
use Rattle.std.specs.List.{count_by}
use Rattle.script_front.specs.PlayedFrontInside.{is_command}
use Rattle.script_front.proofs.ComingLemmas.{brings-count}
use Rattle.script_front.proofs.coming_lines.commands.Goals as goal

pub returns-clause-is : goal.returns-clause-is
returns-clause-is c =
    let counted : c.count.result ≡ count_by is_command c.args.lines.now = search rules in
    counted ∙ sym (brings-count c.args.lines.now)
