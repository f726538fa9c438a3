use Rattle.std.proofs.Common.{sym}
use Rattle.stand_ins.specs.FilesInside.{HasNone, IsOnlyAt}
use Rattle.stand_ins.proofs.SlotLemmas.{content-only, get-missing}
use Rattle.stand_ins.proofs.shelf.Shelf.get.Goals as goal

pub returns-in-Some : goal.returns-in-Some
returns-in-Some c =
    let only : IsOnlyAt c.args.name.now c.in-Some.place c.self.inside.slots.items = rw c.deref.ensures.value at c.in-Some.ensures.some in
    rw (← c.self.view_is, c.kept.ensures) (sym (content-only c.args.name.now c.self.inside.slots.items c.in-Some.place c.index.result.now only c.index.ensures))

pub returns-in-None : goal.returns-in-None
returns-in-None c =
    let none : HasNone c.args.name.now c.self.inside.slots.items = rw c.deref.ensures.value at c.in-None.ensures.none in
    rw (← c.self.view_is) (get-missing c.args.name.now c.self.inside.slots.items none)
