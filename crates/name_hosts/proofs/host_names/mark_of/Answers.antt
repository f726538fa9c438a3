-- A name that isn't longer than what is marked is marked whole.
use Rattle.std.proofs.Common.{ap, arith, sym, ◌∙◌}
use Rattle.std.proofs.lemmas.List.{length-take-le, take_all}
use Rattle.name_hosts.specs.MarkInside.{mark_of_bytes, most_marked}
use Rattle.name_hosts.proofs.host_names.mark_of.Goals as goal

pub slice_bounds-mark_of_bytes-end : goal.slice_bounds-mark_of_bytes-end
slice_bounds-mark_of_bytes-end c = sym (length-take-le 64 c.args.name.now (omega arith))

pub returns-else-name-gt-MOST_MARKED : goal.returns-else-name-gt-MOST_MARKED
returns-else-name-gt-MOST_MARKED c =
    c.mark_of_bytes-else-name-gt-MOST_MARKED.ensures ∙ ap mark_of_bytes (sym (take_all most_marked c.args.name.now (omega arith)))
