use Rattle.std.proofs.Common.{◌+◌, ◌<◌, length, map, rules, arith}
use Rattle.std.proofs.lemmas.List.{get_or_read}
use Rattle.timeout_queues.specs.Entries.{parked_in}
use Rattle.timeout_queues.proofs.WalkLemmas.{back_here}
use Rattle.timeout_queues.proofs.is_back.Goals as goal

pub returns-then-is_in_ring : goal.returns-then-is_in_ring
returns-then-is_in_ring c =
    let ps = map parked_in c.args.slots.now in
    let behind = c.args.rings.now.behind.items in
    let within : c.args.place < length behind = omega arith in
    let inside : c.args.place < length ps + 5 = omega (arith, within, c.requires.rings.behinds) in
    let next = get_or_read behind c.args.place c.index-next.result.now within c.index-next.ensures 0 in
    back_here ps behind c.args.head c.args.deadline c.args.place c.index-next.result.now c.is_due_from.result inside (search rules) next c.is_due_from.ensures
