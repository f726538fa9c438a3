use Rattle.std.proofs.Common.{arith}
use Rattle.std.proofs.lemmas.Bool.Decides.{nat_tests}
use Rattle.stand_ins.proofs.NamesLemmas.{below-listed, length-listed, names_in-is, utf8-listed}
use Rattle.stand_ins.proofs.listing.list_names.Goals as goal

pub returns-then-count_names-most-clause-answer : goal.returns-then-count_names-most-clause-answer
returns-then-count_names-most-clause-answer c =
    rw (← c.slots-slots.ensures.files, length-listed, ← c.count_names.ensures) (grind (arith, nat_tests))

pub returns-in-Ok-clause-answer : goal.returns-in-Ok-clause-answer
returns-in-Ok-clause-answer c =
    rw (← c.slots-slots.ensures.files, c.in-Ok.ensures, names_in-is, length-listed, ← c.count_names.ensures) (grind (arith, nat_tests))

pub returns-in-Ok-clause-utf8 : goal.returns-in-Ok-clause-utf8
returns-in-Ok-clause-utf8 c =
    rw c.in-Ok.ensures (utf8-listed c.args.folder.now c.slots-slots.result.now c.slots-slots.ensures.texts)

pub returns-in-Ok-clause-below : goal.returns-in-Ok-clause-below
returns-in-Ok-clause-below c =
    rw c.in-Ok.ensures (below-listed c.args.folder.now c.slots-slots.result.now)

pub returns-in-Err-clause-answer : goal.returns-in-Err-clause-answer
returns-in-Err-clause-answer c =
    rw (← c.slots-slots.ensures.files, length-listed, ← c.count_names.ensures) (grind (arith, nat_tests))
