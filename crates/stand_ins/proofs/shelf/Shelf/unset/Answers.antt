use Rattle.std.proofs.Common.{refl}
use Rattle.stand_ins.specs.FilesInside.{HasNone, IsOnlyAt}
use Rattle.stand_ins.proofs.PlaceLemmas.{found-set, kept-gone}
use Rattle.stand_ins.proofs.SlotLemmas.{unset-missing, unset-only}
use Rattle.stand_ins.proofs.shelf.Shelf.unset.Goals as goal

pub invariant_of-self : goal.invariant_of-self
invariant_of-self c =
    let only : IsOnlyAt c.args.name.now c.in-Some.place c.self.inside.slots.items = rw c.deref.ensures.value at c.in-Some.ensures.some in
    rw c.empty.ensures
    (found-set c.self.inside.places c.self.inside.slots.items c.in-Some.place c.index_mut.result.now _ c.self.invariant only.within c.index_mut.ensures.value refl
    (kept-gone c.index_mut.result.now))

pub returns-in-Some-clause-files : goal.returns-in-Some-clause-files
returns-in-Some-clause-files c =
    let only : IsOnlyAt c.args.name.now c.in-Some.place c.self.inside.slots.items = rw c.deref.ensures.value at c.in-Some.ensures.some in
    rw (← c.self.view_is, c.empty.ensures) (unset-only c.args.name.now c.self.inside.slots.items c.in-Some.place c.index_mut.result.now only c.index_mut.ensures.value)

pub returns-in_default-clause-files : goal.returns-in_default-clause-files
returns-in_default-clause-files c =
    let none : HasNone c.args.name.now c.self.inside.slots.items = rw c.deref.ensures.value at c.in_default.ensures.none in
    rw (← c.self.view_is) (unset-missing c.args.name.now c.self.inside.slots.items none)
