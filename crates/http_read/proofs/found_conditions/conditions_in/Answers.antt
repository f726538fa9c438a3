use Rattle.std.specs.Prelude.{map}
use Rattle.httparse.specs.Spans.{header_bytes}
use Rattle.http_read.proofs.ConditionLemmas.{conditions_found}
use Rattle.http_read.proofs.found_conditions.conditions_in.Goals as goal

pub returns : goal.returns
returns c =
    let head = c.args.head.now in
    let found = c.find_conditions-found.ensures in
    conditions_found head (map (header_bytes head) c.args.headers.now) _ c.in_ok-listed.ensures c.in_ok-listed-2.ensures
    (c.only_value.ensures head _ found.if_unmodified_since_is) (c.only_value-2.ensures head _ found.if_modified_since_is)
    (c.only_value-3.ensures head _ found.if_range_is) (c.is_found.ensures head _ found.if_range_is)
