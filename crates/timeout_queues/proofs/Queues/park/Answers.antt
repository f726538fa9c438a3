use Rattle.std.proofs.Common.{◌≡◌, ◌+◌, length, map, None, arith, refl}
use Rattle.std.proofs.lemmas.List.{map-set, length-map}
use Rattle.timeout_queues.specs.Waiting.{parked_as}
use Rattle.timeout_queues.specs.Entries.{parked_in}
use Rattle.timeout_queues.specs.RingsInside.{by_kind, ring_number}
use Rattle.timeout_queues.proofs.MapLemmas.{park_updates}
use Rattle.timeout_queues.proofs.PlaceLemmas.{rings_park}
use Rattle.timeout_queues.proofs.WithinLemmas.{lists_match, place_behind, next_within, slot_place, kept_within, kept_few, few_fit, head_after}
use Rattle.timeout_queues.proofs.Queues.park.Goals as goal

pub invariant_of-self : goal.invariant_of-self
invariant_of-self c =
    let ps = map parked_in c.self.inside.slots.items in
    let free = rw (← c.self.view_is) at c.requires in
    let head : c.head_of-head.result ≡ length ps + ring_number c.args.kind = omega (arith, c.head_of-head.ensures, length-map c.self.inside.slots.items parked_in) in
    let at = rw (c.deref.ensures.value, head) at c.last_before-place.ensures in
    rw (map-set, c.insert.ensures.before, c.insert.ensures.behind)
    (rings_park by_kind ps c.self.inside.rings.before.items c.self.inside.rings.behind.items c.args.name.slot c.last_before-place.result
    (parked_as c.args.name c.args.kind c.args.deadline) c.self.invariant free at)

pub returns-clause-parked : goal.returns-clause-parked
returns-clause-parked c = rw (map-set, c.self.view_is) refl

pub returns-clause-updates : goal.returns-clause-updates
returns-clause-updates c = rw (returns-clause-parked c) (park_updates _ _ _ _ c.requires)

pub head_of-head-requires : goal.head_of-head-requires
head_of-head-requires c =
    kept_few c.self.inside.slots.items c.self.inside.rings.before.items c.self.inside.rings.behind.items c.len.result c.self.inside.slots.len
    c.self.invariant c.len.ensures c.self.inside.slots.ok.0

pub overflow_cast-len : goal.overflow_cast-len
overflow_cast-len c = few_fit c.len.result (head_of-head-requires c)

pub last_before-place-requires-clause-rings : goal.last_before-place-requires-clause-rings
last_before-place-requires-clause-rings c = rw c.deref.ensures.value c.self.invariant

pub last_before-place-requires-clause-head : goal.last_before-place-requires-clause-head
last_before-place-requires-clause-head c =
    head_after (length c.deref.result.now) c.len.result c.self.inside.slots.len c.head_of-head.result c.args.kind
    c.deref.ensures.len c.len.ensures c.head_of-head.ensures

pub insert-requires-clause-befores : goal.insert-requires-clause-befores
insert-requires-clause-befores c =
    lists_match by_kind (map parked_in c.self.inside.slots.items) c.self.inside.rings.before.items c.self.inside.rings.behind.items c.self.invariant

pub insert-requires-clause-place : goal.insert-requires-clause-place
insert-requires-clause-place c =
    place_behind by_kind (map parked_in c.self.inside.slots.items) c.self.inside.rings.before.items c.self.inside.rings.behind.items c.self.invariant
    c.last_before-place.result (rw c.deref.ensures.value at c.last_before-place.ensures.within)

pub insert-requires-clause-new : goal.insert-requires-clause-new
insert-requires-clause-new c =
    let ps = map parked_in c.self.inside.slots.items in
    let before = c.self.inside.rings.before.items in
    let behind = c.self.inside.rings.behind.items in
    let free = rw (← c.self.view_is) at c.requires in
    place_behind by_kind ps before behind c.self.invariant c.args.name.slot
    (slot_place by_kind ps before behind c.self.invariant c.args.name.slot None free)

pub insert-requires-clause-next : goal.insert-requires-clause-next
insert-requires-clause-next c =
    next_within by_kind (map parked_in c.self.inside.slots.items) c.self.inside.rings.before.items c.self.inside.rings.behind.items c.self.invariant
    c.last_before-place.result (rw c.deref.ensures.value at c.last_before-place.ensures.within)

pub index_mut-requires : goal.index_mut-requires
index_mut-requires c =
    let free = rw (← c.self.view_is) at c.requires in
    rw c.self.inside.slots.ok.0 (kept_within c.self.inside.slots.items c.args.name.slot None free)
