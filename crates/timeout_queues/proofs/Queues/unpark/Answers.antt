use Rattle.std.proofs.Common.{map, refl, sym, ◌∙◌}
use Rattle.std.proofs.lemmas.List.{map-set}
use Rattle.timeout_queues.specs.Entries.{parked_in}
use Rattle.timeout_queues.specs.RingsInside.{by_kind}
use Rattle.timeout_queues.proofs.MapLemmas.{parked_slot, unpark_updates, same_updates}
use Rattle.timeout_queues.proofs.PlaceLemmas.{rings_unpark}
use Rattle.timeout_queues.proofs.WithinLemmas.{lists_match, place_before, place_behind, last_within, next_within, slot_place, kept_within}
use Rattle.timeout_queues.proofs.Queues.unpark.Goals as goal

pub invariant_of-self : goal.invariant_of-self
invariant_of-self c =
    let ps = map parked_in c.self.inside.slots.items in
    let parked = rw (← c.self.view_is) at (sym c.is_parked.ensures ∙ c.if-not-is_parked.false) in
    let there = parked_slot ps c.args.name parked in
    rw (map-set, c.remove.ensures.before, c.remove.ensures.behind)
    (rings_unpark by_kind ps c.self.inside.rings.before.items c.self.inside.rings.behind.items c.args.name.slot there.0 c.self.invariant there.1)

pub returns-clause-unparked : goal.returns-clause-unparked
returns-clause-unparked c = rw (map-set, c.self.view_is) refl

pub returns-clause-updates : goal.returns-clause-updates
returns-clause-updates c = rw (returns-clause-unparked c) (unpark_updates _ _ (sym c.is_parked.ensures ∙ c.if-not-is_parked.false))

pub returns-then-not-is_parked-clause-found : goal.returns-then-not-is_parked-clause-found
returns-then-not-is_parked-clause-found c = sym c.if-not-is_parked.true ∙ c.is_parked.ensures

pub returns-then-not-is_parked-clause-updates : goal.returns-then-not-is_parked-clause-updates
returns-then-not-is_parked-clause-updates c =
    same_updates c.args.self.now c.args.name (sym c.is_parked.ensures ∙ c.if-not-is_parked.true)

pub index-before-requires : goal.index-before-requires
index-before-requires c =
    let ps = map parked_in c.self.inside.slots.items in
    let before = c.self.inside.rings.before.items in
    let behind = c.self.inside.rings.behind.items in
    let parked = rw (← c.self.view_is) at (sym c.is_parked.ensures ∙ c.if-not-is_parked.false) in
    rw c.self.inside.rings.before.ok.0
    (place_before by_kind ps before behind c.self.invariant c.args.name.slot
    (slot_place by_kind ps before behind c.self.invariant c.args.name.slot _ (parked_slot ps c.args.name parked).1))

pub remove-requires-clause-befores : goal.remove-requires-clause-befores
remove-requires-clause-befores c =
    lists_match by_kind (map parked_in c.self.inside.slots.items) c.self.inside.rings.before.items c.self.inside.rings.behind.items c.self.invariant

pub remove-requires-clause-place : goal.remove-requires-clause-place
remove-requires-clause-place c =
    let ps = map parked_in c.self.inside.slots.items in
    let before = c.self.inside.rings.before.items in
    let behind = c.self.inside.rings.behind.items in
    let parked = rw (← c.self.view_is) at (sym c.is_parked.ensures ∙ c.if-not-is_parked.false) in
    place_behind by_kind ps before behind c.self.invariant c.args.name.slot
    (slot_place by_kind ps before behind c.self.invariant c.args.name.slot _ (parked_slot ps c.args.name parked).1)

pub remove-requires-clause-last : goal.remove-requires-clause-last
remove-requires-clause-last c =
    let ps = map parked_in c.self.inside.slots.items in
    let before = c.self.inside.rings.before.items in
    let behind = c.self.inside.rings.behind.items in
    let parked = rw (← c.self.view_is) at (sym c.is_parked.ensures ∙ c.if-not-is_parked.false) in
    last_within by_kind ps before behind c.self.invariant c.args.name.slot
    (slot_place by_kind ps before behind c.self.invariant c.args.name.slot _ (parked_slot ps c.args.name parked).1)

pub remove-requires-clause-next : goal.remove-requires-clause-next
remove-requires-clause-next c =
    let ps = map parked_in c.self.inside.slots.items in
    let before = c.self.inside.rings.before.items in
    let behind = c.self.inside.rings.behind.items in
    let parked = rw (← c.self.view_is) at (sym c.is_parked.ensures ∙ c.if-not-is_parked.false) in
    next_within by_kind ps before behind c.self.invariant c.args.name.slot
    (slot_place by_kind ps before behind c.self.invariant c.args.name.slot _ (parked_slot ps c.args.name parked).1)

pub index_mut-requires : goal.index_mut-requires
index_mut-requires c =
    let kept = c.self.inside.slots.items in
    let parked = rw (← c.self.view_is) at (sym c.is_parked.ensures ∙ c.if-not-is_parked.false) in
    rw c.self.inside.slots.ok.0 (kept_within kept c.args.name.slot _ (parked_slot (map parked_in kept) c.args.name parked).1)

pub returns-clause-found : goal.returns-clause-found
returns-clause-found c = sym c.if-not-is_parked.false ∙ c.is_parked.ensures
