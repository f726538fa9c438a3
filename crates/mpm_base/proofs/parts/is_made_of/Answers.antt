use Rattle.std.proofs.lemmas.List.{take_rest}
use Rattle.mpm_base.proofs.PartLemmas.{made_of}
use Rattle.mpm_base.proofs.parts.is_made_of.Goals as goal

pub returns-then-starts_with : goal.returns-then-starts_with
returns-then-starts_with c =
    rw (made_of c.args.text.now c.args.front.now c.args.back.now, ← c.if-starts_with.ensures.value) (rw take_rest at c.eq.ensures)

pub returns-else-starts_with : goal.returns-else-starts_with
returns-else-starts_with c =
    rw (made_of c.args.text.now c.args.front.now c.args.back.now, ← c.if-starts_with.ensures.value, c.if-starts_with.false)
