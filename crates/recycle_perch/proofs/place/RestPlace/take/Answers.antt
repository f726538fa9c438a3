use Rattle.std.proofs.Common.{arith}
use Rattle.recycle_perch.proofs.StepLemmas.{takes}
use Rattle.recycle_perch.proofs.place.RestPlace.take.Goals as goal

pub swap-seat-requires : goal.swap-seat-requires
swap-seat-requires g c = (
  omega arith,
  c.requires.mark,
  takes (record {
    goes_on = c.trails_go_on_by_one_step.ensures.goes_on;
    numbered = c.trails_go_on_by_one_step.ensures.numbered;
    of_makers = c.trails_go_on_by_one_step.ensures.of_makers;
    own = c.makers_have_their_own_steps.ensures.own;
    other = c.makers_have_their_own_steps.ensures.other;
    none = c.makers_have_their_own_steps.ensures.none;
  }) _ _,
)
