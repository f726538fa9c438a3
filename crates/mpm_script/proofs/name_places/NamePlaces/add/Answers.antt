use Rattle.std.proofs.Common.{◌≡◌, ◌∷◌, ◌++◌, [], length, refl, ◌∙◌}
use Rattle.mpm_script.proofs.NamePlaceLemmas.{finds-new, finds-old}
use Rattle.mpm_script.proofs.name_places.NamePlaces.add.Goals as goal
use Rattle.mpm_script.proofs.name_places.NamePlaces.add.Goals.{then-not-contains_key+in_ok-key+in_ok-insert, else-not-contains_key}

pub invariant_of-self-2 : goal.invariant_of-self-2
invariant_of-self-2 c =
    let names = c.self.inside.names.items in
    let name = c.args.name.now in
    let size : c.count-place.result ≡ length names = rw (← c.self.view_is) at c.count-place.ensures in
    elim c.if-not-contains_key.branch [
      | then-not-contains_key+in_ok-key+in_ok-insert w ↦
          let more : c.push.new.self.items ≡ names ++ name ∷ [] = c.in-Ok.ensures.items ∙ rw (w.self-inside-is, c.in_ok-reserve.ensures.items, c.in_ok-text.ensures) refl in
          let finds =
          finds-new c.self.inside.places w.insert.new.self names name w.in_ok-key.key c.count-place.result w.in_ok-key.ensures.items size c.self.invariant w.if-not-contains_key.ensures w.in_ok-insert.ensures.updates in
          λ other. rw (w.self-inside-is, more) (finds other)
      | else-not-contains_key w ↦
          let more : c.push.new.self.items ≡ names ++ name ∷ [] = c.in-Ok.ensures.items ∙ rw (w.self-inside-is, c.in_ok-reserve.ensures.items, c.in_ok-text.ensures) refl in
          let finds = finds-old c.self.inside.places names name c.self.invariant w.if-not-contains_key.ensures in
          λ other. rw (w.self-inside-is, more) (finds other)
    ]
