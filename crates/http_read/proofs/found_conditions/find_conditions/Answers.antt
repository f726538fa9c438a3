use Rattle.std.proofs.Common.{[], ◌∷◌, get_or, take, sym, ap, ◌∙◌, subst}
use Rattle.std.specs.Prelude.{map}
use Rattle.std.proofs.lemmas.List.{take_more, map-append}
use Rattle.httparse.specs.declared.spans.HeaderSpan.{HeaderSpan}
use Rattle.httparse.specs.Spans.{header_bytes}
use Rattle.http_read.specs.ValuesInside.{AreConditionsFound}
use Rattle.http_read.proofs.found_conditions.find_conditions.Goals as goal

-- what stands past the end of the headers, where a default is asked for
none : HeaderSpan
none = record { name = record { start = 0; end = 0 }; value = record { start = 0; end = 0 } }

pub loop-header-init : goal.loop-header-init
loop-header-init c = c.none_found-found.ensures c.args.head.now

pub loop-header-preserved : goal.loop-header-preserved
unfolding none
loop-header-preserved c =
    let head = c.args.head.now in
    let headers = c.args.headers.now in
    let i = c.loop-header.header-index in
    let more = ap (map (header_bytes head)) (take_more headers i none c.loop-header-test.true) ∙ map-append (header_bytes head) (take i headers) (get_or headers i none ∷ []) in
    subst (λ fields. AreConditionsFound head fields c.add_field-found.result) (sym more)
    (c.add_field-found.ensures (map (header_bytes head) (take i headers)) c.loop-header.invariant)
