use Rattle.std.proofs.Common.{◌∷◌, []}
use Rattle.std.proofs.lemmas.List.{take_rest}
use Rattle.stand_ins.proofs.NamesLemmas.{starts_with-append}
use Rattle.stand_ins.proofs.slot.is_under.Goals as goal

pub returns-then-starts_with : goal.returns-then-starts_with
returns-then-starts_with c =
    rw (starts_with-append c.args.name.now c.args.folder.now (47 ∷ []), ← c.as_bytes-folder.ensures.value, ← c.if-starts_with.ensures.value) (rw take_rest at c.starts_with-then-starts_with.ensures.value)

pub returns-else-starts_with : goal.returns-else-starts_with
returns-else-starts_with c =
    rw (starts_with-append c.args.name.now c.args.folder.now (47 ∷ []), ← c.as_bytes-folder.ensures.value, ← c.if-starts_with.ensures.value, c.if-starts_with.false)
