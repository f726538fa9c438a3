use Rattle.std.proofs.Common.{refl}
use Rattle.timeout_queues.proofs.KeptLemmas.{due_kept}
use Rattle.timeout_queues.proofs.deadline_at.Goals as goal

pub returns-in-Some : goal.returns-in-Some
returns-in-Some c = rw (due_kept c.args.slots.now c.args.place, ← c.kept_at.ensures, c.in-Some.is) refl

pub returns-in-None : goal.returns-in-None
returns-in-None c = rw (due_kept c.args.slots.now c.args.place, ← c.kept_at.ensures, c.in-None.is) refl
