use Rattle.std.proofs.Common.{arith}
use Rattle.recycle_perch.proofs.StepLemmas.{comes}
use Rattle.recycle_perch.proofs.looks.Looks.add.Goals as goal

pub swap_new_mark-mark-requires : goal.swap_new_mark-mark-requires
swap_new_mark-mark-requires g c = (
  omega arith,
  comes (record {
    goes_on = c.trails_go_on_by_one_step.ensures.goes_on;
    numbered = c.trails_go_on_by_one_step.ensures.numbered;
    of_makers = c.trails_go_on_by_one_step.ensures.of_makers;
    own = c.makers_have_their_own_steps.ensures.own;
    other = c.makers_have_their_own_steps.ensures.other;
    none = c.makers_have_their_own_steps.ensures.none;
  }),
)
