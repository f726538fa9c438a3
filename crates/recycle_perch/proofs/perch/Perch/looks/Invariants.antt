use Rattle.std.proofs.Common.{◌≡◌, ◌≤◌, [], vec_len}
use Rattle.std.specs.Prelude.{vec_capacity}
use Rattle.recycle_perch.specs.Looking.{AllLookAt}
use Rattle.recycle_perch.proofs.perch.Perch.looks.Given as goal

-- those so far are at no place
abbrev pub invariant-loop : goal.invariant-loop
invariant-loop g l =
    AllLookAt [] (vec_capacity l.self.places) l.all.items × (vec_len l.all ≡ l.counter) × (l.callers ≤ vec_capacity l.all)
