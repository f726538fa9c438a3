use Rattle.recycle_perch.proofs.StepLemmas.{gives}
use Rattle.recycle_perch.proofs.place.RestPlace.give.Goals as goal

pub give-requires-clause-mark : goal.give-requires-clause-mark
give-requires-clause-mark g c = (
  c.requires.mark,
  gives (record {
    goes_on = c.trails_go_on_by_one_step.ensures.goes_on;
    numbered = c.trails_go_on_by_one_step.ensures.numbered;
    of_makers = c.trails_go_on_by_one_step.ensures.of_makers;
    own = c.makers_have_their_own_steps.ensures.own;
    other = c.makers_have_their_own_steps.ensures.other;
    none = c.makers_have_their_own_steps.ensures.none;
  }) _ _,
)
