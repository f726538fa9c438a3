use Rattle.std.proofs.Common.{◌<◌, length, map, arith}
use Rattle.std.proofs.lemmas.List.{get_or_read}
use Rattle.timeout_queues.specs.Entries.{parked_in}
use Rattle.timeout_queues.specs.RingsInside.{by_kind, due_at}
use Rattle.timeout_queues.proofs.WalkLemmas.{due_within, steps_fall}
use Rattle.timeout_queues.proofs.WithinLemmas.{place_before, back_on, last_here}
use Rattle.timeout_queues.proofs.last_before.Goals as goal

pub loop-place-smaller : goal.loop-place-smaller
loop-place-smaller c =
    let ps = map parked_in c.args.slots.now in
    let before = c.args.rings.now.before.items in
    let place = c.loop-place.place in
    let late : c.args.deadline < due_at by_kind ps place = omega (arith, c.loop-place-test.true, c.deadline_at.ensures) in
    let within : place < length before = omega (arith, c.loop-place.invariant.within, c.requires.rings.befores) in
    let to = get_or_read before place c.index-place.result.now within c.index-place.ensures 0 in
    rw to (steps_fall ps before c.args.rings.now.behind.items c.requires.rings c.args.head place
    (due_within ps c.args.deadline place late) c.loop-place.invariant.ring)

pub back_from-place-requires-clause-rings : goal.back_from-place-requires-clause-rings
back_from-place-requires-clause-rings c = c.requires.rings

pub back_from-place-requires-clause-head : goal.back_from-place-requires-clause-head
back_from-place-requires-clause-head c = c.requires.head

pub loop-place-init : goal.loop-place-init
loop-place-init c = c.back_from-place.ensures

pub index-place-requires : goal.index-place-requires
index-place-requires c =
    rw c.args.rings.now.before.ok.0
    (place_before by_kind (map parked_in c.args.slots.now) c.args.rings.now.before.items c.args.rings.now.behind.items c.requires.rings
    c.loop-place.place c.loop-place.invariant.within)

pub loop-place-preserved : goal.loop-place-preserved
loop-place-preserved c =
    back_on (map parked_in c.args.slots.now) c.args.rings.now.before.items c.args.rings.now.behind.items c.args.head c.args.deadline c.loop-place.place
    c.deadline_at.result c.index-place.result.now c.requires.rings c.loop-place.invariant c.deadline_at.ensures c.loop-place-test.true c.index-place.ensures

pub returns : goal.returns
returns c =
    last_here (map parked_in c.args.slots.now) c.args.rings.now.behind.items c.args.head c.args.deadline c.loop-place.place c.deadline_at.result
    c.loop-place.invariant c.deadline_at.ensures c.loop-place-test.false
