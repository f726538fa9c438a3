use Rattle.std.proofs.Common.{◌≡◌, refl, sym}
use Rattle.std.specs.Prelude.{codes, map}
use Rattle.httparse.specs.Spans.{header_bytes}
use Rattle.http_read.specs.FieldValues.{only_value, values_named}
use Rattle.http_read.specs.Spans.{value_at}
use Rattle.http_read.proofs.ConditionLemmas.{value_in, value_is}
use Rattle.http_read.proofs.whole_head.judge.Goals as goal

pub invariant_of-result : goal.invariant_of-result
invariant_of-result c =
    let head = c.args.head.now in
    rw c.in-Ok-from_slice.ensures.items (record {
      method_in = c.requires.method;
      target_in = c.requires.path;
      host_in = c.in-Ok.ensures.1;
      range_in = value_in head _ c.only_value.result (c.only_value.ensures head _ c.find_fields-found.ensures.range_is);
      conditions_in = c.in-Ok-conditions_in.ensures.within;
    })

pub returns-in-Ok-from_slice : goal.returns-in-Ok-from_slice
returns-in-Ok-from_slice c =
    let head = c.args.head.now in
    let fields = map (header_bytes head) c.args.headers.now in
    let range : only_value (values_named (codes "range") fields) ≡ value_at head c.only_value.result =
    value_is head _ c.only_value.result (c.only_value.ensures head _ c.find_fields-found.ensures.range_is) in (
      rw (c.in-Ok-from_slice.ensures.items, c.if-long.false, c.in-Ok.ensures.0, ← c.in-Ok-body_of.ensures, ← c.in-Ok-expects_of.ensures, ← c.asks_close.ensures, range, c.in-Ok-conditions_in.ensures.are) refl,
      refl,
    )
