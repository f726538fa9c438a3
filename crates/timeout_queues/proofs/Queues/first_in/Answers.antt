use Rattle.std.proofs.Common.{◌≡◌, ◌+◌, ◌<◌, ℕ, length, ap, sym, ◌∙◌, arith}
use Rattle.std.proofs.lemmas.List.{length-map, get_or_read}
use Rattle.timeout_queues.specs.Entries.{parked_in}
use Rattle.timeout_queues.specs.RingsInside.{place_at}
use Rattle.timeout_queues.proofs.FirstLemmas.{first_some, first_none}
use Rattle.timeout_queues.proofs.Queues.first_in.Goals as goal

pub returns-in-Some : goal.returns-in-Some
returns-in-Some c =
    let kept = c.self.inside.slots.items in
    let behind = c.self.inside.rings.behind.items in
    let within : c.len.result + c.args.number < length behind = omega (arith, c.self.invariant.behinds, length-map kept parked_in) in
    let count : c.len.result ≡ length kept = omega arith in
    let slot = get_or_read behind (c.len.result + c.args.number) c.index-slot.result.now within c.index-slot.ensures 0
    ∙ ap (λ (n : ℕ). place_at behind (n + c.args.number)) count in
    rw (← c.self.view_is)
    (first_some kept c.self.inside.rings.before.items behind c.args.number c.index-slot.result.now c.in-Some.entry c.self.invariant slot
    (sym c.in-Some.is ∙ rw c.deref.ensures.value at c.kept_at.ensures))

pub returns-in-None : goal.returns-in-None
returns-in-None c =
    let kept = c.self.inside.slots.items in
    let behind = c.self.inside.rings.behind.items in
    let within : c.len.result + c.args.number < length behind = omega (arith, c.self.invariant.behinds, length-map kept parked_in) in
    let count : c.len.result ≡ length kept = omega arith in
    let slot = get_or_read behind (c.len.result + c.args.number) c.index-slot.result.now within c.index-slot.ensures 0
    ∙ ap (λ (n : ℕ). place_at behind (n + c.args.number)) count in
    rw (← c.self.view_is)
    (first_none kept c.self.inside.rings.before.items behind c.args.number c.index-slot.result.now c.self.invariant slot
    (sym c.in-None.is ∙ rw c.deref.ensures.value at c.kept_at.ensures))
