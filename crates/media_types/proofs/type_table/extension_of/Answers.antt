use Rattle.std.proofs.Common.{◌≡◌, ◌-◌, ◌+◌, drop, sym, ap, ◌∙◌, arith}
use Rattle.std.proofs.lemmas.List.{take_rest}
use Rattle.media_types.specs.MediaType.{extension_of}
use Rattle.media_types.proofs.NameLemmas.{extension_here}
use Rattle.media_types.proofs.type_table.extension_of.Goals as goal

pub returns-then-name-place-eq46 : goal.returns-then-name-place-eq46
returns-then-name-place-eq46 c =
    let place = c.loop-place.place in
    let next : place - 1 + 1 ≡ place = omega arith in
    sym (extension_here c.args.name.now _ (place - 1) (omega arith) c.if-name-place-eq46.true
    (ap (λ n. extension_of (drop n c.args.name.now)) next ∙ c.loop-place.invariant) (take_rest c.args.name.now (place - 1 + 1)))
