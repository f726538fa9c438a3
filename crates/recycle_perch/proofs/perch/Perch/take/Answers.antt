use Rattle.std.proofs.Common.{arith}
use Rattle.recycle_perch.specs.Looking.{steps_of}
use Rattle.recycle_perch.proofs.LookLemmas.{steps_long, taken_all, taken_first}
use Rattle.recycle_perch.proofs.perch.Perch.take.Goals as goal

pub returns-in-Some-clause-steps : goal.returns-in-Some-clause-steps
returns-in-Some-clause-steps g c =
    let places = c.args.self.now.places in
    let long = steps_long places.items c.args.looks.now c.requires.looks.words in
    taken_first c.first-first.result c.len-places.result _ (steps_of c.args.looks.now) _ (omega (arith, long, places.ok.0, c.len-places.ensures)) c.in-Some.ensures.steps

pub returns-in-None-clause-steps : goal.returns-in-None-clause-steps
returns-in-None-clause-steps g c =
    let places = c.args.self.now.places in
    let long = steps_long places.items c.args.looks.now c.requires.looks.words in
    taken_all c.take_between-in-None.result _ c.first-first.result c.len-places.result (steps_of c.args.looks.now) _ _
    (omega (arith, long, places.ok.0, c.len-places.ensures)) c.first-first.ensures c.in-None.ensures.steps c.take_between-in-None.ensures.steps
