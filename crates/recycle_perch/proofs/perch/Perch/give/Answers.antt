use Rattle.std.proofs.Common.{arith, sym}
use Rattle.recycle_perch.specs.Looking.{steps_of}
use Rattle.recycle_perch.specs.Words.{laid_none}
use Rattle.recycle_perch.proofs.LookLemmas.{laid_down, step_beyond, steps_long}
use Rattle.recycle_perch.proofs.perch.Perch.give.Goals as goal

pub returns-then-len-place-clause-steps : goal.returns-then-len-place-clause-steps
returns-then-len-place-clause-steps g c =
    let places = c.args.self.now.places in
    let long = steps_long places.items c.args.looks.now c.requires.looks.words in
    sym (step_beyond (steps_of c.args.looks.now) _ laid_none (omega (arith, long, places.ok.0, c.number.ensures)))

pub returns-clause-steps : goal.returns-clause-steps
returns-clause-steps g c =
    let places = c.args.self.now.places in
    let long = steps_long places.items c.args.looks.now c.requires.looks.words in
    laid_down c.give_at.result _ _ (steps_of c.args.looks.now) _ (omega (arith, c.number.ensures)) (omega (arith, long, places.ok.0, c.number.ensures))
    c.give_at.ensures.step
