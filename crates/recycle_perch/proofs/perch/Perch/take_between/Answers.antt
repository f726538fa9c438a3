use Rattle.std.proofs.Common.{arith, ap, ◌∙◌, List, Vec, map}
use Rattle.atomic_table.specs.declared.ruled.Mark.{Mark}
use Rattle.table_rule.specs.declared.trail.Step.{Step}
use Rattle.recycle_perch.specs.Words.{deeds}
use Rattle.recycle_perch.specs.Looking.{steps_of}
use Rattle.recycle_perch.proofs.LookLemmas.{taken_at, tried_more, tried_none}
use Rattle.recycle_perch.proofs.perch.Perch.take_between.Goals as goal

pub loop-i-init : goal.loop-i-init
loop-i-init g c = (c.requires.looks, omega arith, tried_none c.args.from (steps_of c.args.looks.now))

pub loop-i-preserved : goal.loop-i-preserved
loop-i-preserved g c = (
  c.in_default.ensures.looks,
  omega (arith, c.loop-i.invariant.1),
  tried_more c.args.from c.loop-i.i (steps_of c.args.looks.now) (steps_of c.loop-i.looks) _ c.loop-i.invariant.1 c.loop-i.invariant.2 c.in_default.ensures.step,
)

pub returns-in-Some-clause-steps : goal.returns-in-Some-clause-steps
returns-in-Some-clause-steps g c =
    taken_at c.args.from c.args.to c.loop-i.i _ (steps_of c.args.looks.now) (steps_of c.loop-i.looks) _ c.loop-i.invariant.1 (omega arith) c.in-Some.ensures.number
    c.loop-i.invariant.2 (ap (λ (marks : Vec (Mark (List Step)) _). map (λ mark. deeds mark.view) marks.items) c.found_at.ensures ∙ c.in-Some.ensures.step)
