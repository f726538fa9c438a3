use Rattle.std.proofs.Common.{◌≡◌, ◌++◌, map, sym, ap, ◌∙◌}
use Rattle.std.proofs.lemmas.List.{append_assoc, map-append}
use Rattle.media_types.specs.MediaType.{further_table, short_table, table_of}
use Rattle.media_types.specs.PairsInside.{pair_sent}
use Rattle.media_types.proofs.tables.add_table.Goals as goal

pub returns-in_ok-add_lines-2 : goal.returns-in_ok-add_lines-2
returns-in_ok-add_lines-2 c =
    let old = c.args.pairs.now.items in
    let sent = pair_sent c.args.charset.now in
    c.in_ok-add_lines-2.ensures
    ∙ ap (λ items. items ++ map sent further_table) c.in_ok-add_lines.ensures
    ∙ append_assoc old (map sent short_table) (map sent further_table)
    ∙ ap (λ items. old ++ items) (sym (map-append sent short_table further_table))
    ∙ ap (λ long. old ++ map sent (table_of long)) (sym c.if-long.true)

pub returns-else-long : goal.returns-else-long
returns-else-long c =
    c.in_ok-add_lines.ensures
    ∙ ap (λ long. c.args.pairs.now.items ++ map (pair_sent c.args.charset.now) (table_of long)) (sym c.if-long.false)
