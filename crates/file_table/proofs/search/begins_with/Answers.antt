use Rattle.std.proofs.lemmas.List.{take_rest}
use Rattle.file_table.proofs.OrderLemmas.{front_of_two}
use Rattle.file_table.proofs.search.begins_with.Goals as goal

pub returns-then-starts_with : goal.returns-then-starts_with
returns-then-starts_with c =
    rw (front_of_two c.args.name.now c.args.front.now c.args.back.now, ← c.if-starts_with.ensures.value) (rw take_rest at c.starts_with-then-starts_with.ensures.value)

pub returns-else-starts_with : goal.returns-else-starts_with
returns-else-starts_with c =
    rw (front_of_two c.args.name.now c.args.front.now c.args.back.now, ← c.if-starts_with.ensures.value, c.if-starts_with.false)
