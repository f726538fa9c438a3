-- What stands behind an accepted head.
use Rattle.std.specs.Prelude.{◌≡◌, [], if◌then◌else◌}
use Rattle.http_read.specs.declared.body.BodyPlace.{BodyPlace}
use Rattle.http_read.specs.RequestParts.{RequestParts}
use Rattle.http_read.specs.BodyPlaces.{StandsAt, begun_len}
use Rattle.conn_state.specs.declared.stage.Stage.{Stage}
use Rattle.conn_state.specs.declared.stage.Stage.TheVariants as stage
use Rattle.conn_state.specs.declared.steps.StepAnswer.{StepAnswer}
use Rattle.conn_state.specs.declared.steps.StepAnswer.TheVariants as step

-- the request was read up to the front of its body
pub record StartsBody (request : RequestParts) (s : Stage) (answer : StepAnswer) : Type 0 where
  pub reader : BodyPlace
  pub stage_is : s ≡ stage.Body request reader
  pub stands : StandsAt request.body [] reader
  pub none_begun : begun_len reader ≡ 0
  pub answer_is : answer ≡ (if request.expects then step.Awaited else step.Accepted)
