use Rattle.timeout_queues.proofs.WithinLemmas.{head_before, back_last}
use Rattle.timeout_queues.proofs.back_from.Goals as goal

pub index-last-requires : goal.index-last-requires
index-last-requires c =
    rw c.args.rings.now.before.ok.0
    (head_before c.args.slots.now c.args.rings.now.before.items c.args.rings.now.behind.items c.args.head c.requires.rings c.requires.head.1)

pub found_again-requires-clause-rings : goal.found_again-requires-clause-rings
found_again-requires-clause-rings c = c.requires.rings

pub found_again-requires-clause-head : goal.found_again-requires-clause-head
found_again-requires-clause-head c = c.requires.head.0

pub returns-in-Some : goal.returns-in-Some
returns-in-Some c = c.in-Some.ensures

pub returns-in_default : goal.returns-in_default
returns-in_default c =
    back_last c.args.slots.now c.args.rings.now.before.items c.args.rings.now.behind.items c.args.head c.args.deadline c.index-last.result.now
    c.requires.rings c.requires.head c.index-last.ensures

pub returns-else-deadline_at-deadline : goal.returns-else-deadline_at-deadline
returns-else-deadline_at-deadline c =
    back_last c.args.slots.now c.args.rings.now.before.items c.args.rings.now.behind.items c.args.head c.args.deadline c.index-last.result.now
    c.requires.rings c.requires.head c.index-last.ensures
