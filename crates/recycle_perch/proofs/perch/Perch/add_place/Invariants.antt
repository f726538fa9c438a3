use Rattle.std.proofs.Common.{◌≡◌, ◌++◌, ◌∷◌, [], vec_len}
use Rattle.std.specs.Prelude.{vec_capacity}
use Rattle.recycle_perch.specs.Looking.{word_names_of}
use Rattle.recycle_perch.proofs.LookLemmas.{FirstLookAt, OthersLookAt}
use Rattle.recycle_perch.proofs.perch.Perch.add_place.Given as goal

-- those so far are at the place too, and the others as they were
abbrev pub invariant-loop-i : goal.invariant-loop-i
invariant-loop-i g l =
    (vec_len l.all ≡ vec_len l.initial.all)
    × FirstLookAt l.i (word_names_of l.self.places.items ++ l.place.perch.name ∷ []) (vec_capacity l.self.places) l.all.items
    × OthersLookAt l.i (word_names_of l.self.places.items) (vec_capacity l.self.places) l.all.items
