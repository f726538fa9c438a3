use Rattle.std.proofs.Common.{◌≡◌, [], ◌∷◌, ◌++◌, Some, refl, ap, ◌∙◌}
use Rattle.std.proofs.lemmas.Result.{on_ok_weaker}
use Rattle.stand_ins.specs.Files.{files_in}
use Rattle.stand_ins.specs.FilesInside.{HasNone, IsOnlyAt}
use Rattle.stand_ins.proofs.PlaceLemmas.{found-set, kept-set}
use Rattle.stand_ins.proofs.SlotLemmas.{has-content, only-name, put-last, set-only}
use Rattle.stand_ins.proofs.shelf.Shelf.set.Goals as goal

pub invariant_of-self : goal.invariant_of-self
invariant_of-self c =
    let name = c.entry.inside.name in
    let slots = c.self.inside.slots.items in
    let slot = c.index_mut.result.now in
    let only : IsOnlyAt name c.in-Some.place slots = rw (c.deref.ensures.value, c.as_slice.ensures) at c.in-Some.ensures.some in
    rw c.fill.ensures
    (found-set c.self.inside.places slots c.in-Some.place slot _ c.self.invariant only.within c.index_mut.ensures.value refl
    (kept-set slot c.entry.inside.content (has-content name slot (only-name name slots c.in-Some.place slot only c.index_mut.ensures.value))))

pub returns-in-Some-clause-ok : goal.returns-in-Some-clause-ok
returns-in-Some-clause-ok c =
    let name = c.entry.inside.name in
    let slots = c.self.inside.slots.items in
    let only : IsOnlyAt name c.in-Some.place slots = rw (c.deref.ensures.value, c.as_slice.ensures) at c.in-Some.ensures.some in
    rw (← c.self.view_is, ← c.entry.view_is, c.fill.ensures) (set-only name c.entry.inside.content slots c.in-Some.place c.index_mut.result.now only c.index_mut.ensures.value)

pub invariant_of-self-2 : goal.invariant_of-self-2
invariant_of-self-2 c = c.put.ensures.found

pub put-requires-clause-none : goal.put-requires-clause-none
put-requires-clause-none c = rw (c.deref.ensures.value, c.as_slice.ensures) at c.in_default.ensures.none

pub returns-clause-ok : goal.returns-clause-ok
returns-clause-ok c =
    let name = c.entry.inside.name in
    let slots = c.self.inside.slots.items in
    let none : HasNone name slots = rw (c.deref.ensures.value, c.as_slice.ensures) at c.in_default.ensures.none in
    on_ok_weaker c.put.result (λ e.
    let more : c.put.new.slots.items ≡ slots ++ record { name = name; content = Some c.entry.inside.content } ∷ [] = e in
    rw (← c.self.view_is, ← c.entry.view_is) (ap files_in more ∙ put-last name c.entry.inside.content slots none)) c.put.ensures.ok
