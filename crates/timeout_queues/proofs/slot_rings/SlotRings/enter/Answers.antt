use Rattle.std.proofs.Common.{◌≡◌, ◌+◌, ◌<◌, ℕ, List, Option, Some, None, length, set, ap, sym, subst, ◌∙◌, arith}
use Rattle.std.proofs.lemmas.List.{get_or_read}
use Rattle.std.proofs.lemmas.Option.{slice_get_within}
use Rattle.timeout_queues.specs.RingsInside.{by_number, place_at, IsLastBefore}
use Rattle.timeout_queues.proofs.PlaceLemmas.{rings_park}
use Rattle.timeout_queues.proofs.SlotLemmas.{last_filed}
use Rattle.timeout_queues.proofs.WithinLemmas.{lists_match, place_behind, next_within, slot_place, filed_fits, head_fits, head_fits_wide, head_place, last_read, last_place}
use Rattle.timeout_queues.proofs.slot_rings.SlotRings.enter.Goals as goal

pub invariant_of-self : goal.invariant_of-self
invariant_of-self c =
    let slots = c.self.inside.filed.items in
    let before = c.self.inside.rings.before.items in
    let behind = c.self.inside.rings.behind.items in
    let free = rw (← c.self.view_is) at c.requires.slot in
    let within : c.len.result + c.args.ring < length before = omega (arith, c.self.invariant.befores, c.requires.ring) in
    let count : c.len.result ≡ length slots = omega arith in
    let last : c.index-last.result.now ≡ place_at before (length slots + c.args.ring) =
    get_or_read before (c.len.result + c.args.ring) c.index-last.result.now within c.index-last.ensures 0
    ∙ ap (λ (n : ℕ). place_at before (n + c.args.ring)) count in
    rw (c.insert.ensures.before, c.insert.ensures.behind)
    (rings_park by_number slots before behind c.args.slot c.index-last.result.now c.args.ring c.self.invariant free
    (subst (λ (n : ℕ). IsLastBefore by_number slots behind (length slots + c.args.ring) 0 n) (sym last)
    (last_filed slots before behind c.args.ring c.self.invariant c.requires.ring)))

pub overflow_cast-head : goal.overflow_cast-head
overflow_cast-head c =
    filed_fits c.len.result c.self.inside.filed.len (length c.self.inside.filed.items) c.len.ensures c.self.inside.filed.ok.0 c.self.invariant.few

pub overflow_add-head : goal.overflow_add-head
overflow_add-head c =
    head_fits c.len.result c.self.inside.filed.len (length c.self.inside.filed.items) c.args.ring c.len.ensures c.self.inside.filed.ok.0 c.self.invariant.few c.requires.ring

pub overflow_cast-head-2 : goal.overflow_cast-head-2
overflow_cast-head-2 c =
    head_fits_wide c.len.result c.self.inside.filed.len (length c.self.inside.filed.items) c.args.ring c.len.ensures c.self.inside.filed.ok.0 c.self.invariant.few c.requires.ring

pub index-last-requires : goal.index-last-requires
index-last-requires c =
    rw c.self.inside.rings.before.ok.0
    (head_place c.len.result c.self.inside.filed.len (length c.self.inside.filed.items) c.args.ring (length c.self.inside.rings.before.items)
    c.len.ensures c.self.inside.filed.ok.0 c.self.invariant.befores c.requires.ring)

pub insert-requires-clause-befores : goal.insert-requires-clause-befores
insert-requires-clause-befores c =
    lists_match by_number c.self.inside.filed.items c.self.inside.rings.before.items c.self.inside.rings.behind.items c.self.invariant

pub insert-requires-clause-place : goal.insert-requires-clause-place
insert-requires-clause-place c =
    let slots = c.self.inside.filed.items in
    let before = c.self.inside.rings.before.items in
    let behind = c.self.inside.rings.behind.items in
    let last = last_read slots before behind c.len.result c.self.inside.filed.len c.args.ring c.index-last.result.now c.self.invariant c.len.ensures c.self.inside.filed.ok.0
    c.requires.ring c.index-last.ensures in
    place_behind by_number slots before behind c.self.invariant c.index-last.result.now
    (last_place slots before behind c.args.ring c.index-last.result.now c.self.invariant c.requires.ring last)

pub insert-requires-clause-new : goal.insert-requires-clause-new
insert-requires-clause-new c =
    let slots = c.self.inside.filed.items in
    let before = c.self.inside.rings.before.items in
    let behind = c.self.inside.rings.behind.items in
    let free = rw (← c.self.view_is) at c.requires.slot in
    place_behind by_number slots before behind c.self.invariant c.args.slot (slot_place by_number slots before behind c.self.invariant c.args.slot None free)

pub insert-requires-clause-next : goal.insert-requires-clause-next
insert-requires-clause-next c =
    let slots = c.self.inside.filed.items in
    let before = c.self.inside.rings.before.items in
    let behind = c.self.inside.rings.behind.items in
    let last = last_read slots before behind c.len.result c.self.inside.filed.len c.args.ring c.index-last.result.now c.self.invariant c.len.ensures c.self.inside.filed.ok.0
    c.requires.ring c.index-last.ensures in
    next_within by_number slots before behind c.self.invariant c.index-last.result.now
    (last_place slots before behind c.args.ring c.index-last.result.now c.self.invariant c.requires.ring last)

pub index_mut-requires : goal.index_mut-requires
index_mut-requires c =
    let free = rw (← c.self.view_is) at c.requires.slot in
    rw c.self.inside.filed.ok.0 (slice_get_within c.self.inside.filed.items c.args.slot None free)

pub returns : goal.returns
returns c = ap (λ (xs : List (Option ℕ)). set xs c.args.slot (Some c.args.ring)) c.self.view_is
