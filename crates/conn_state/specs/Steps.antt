-- One step of reading, by the bytes that are there.
use Rattle.std.specs.Prelude.{◌≡◌, ℕ, ◌<◌, ◌≤◌, Bool, true, false, ◌||◌, List, take, drop, length, ⊤}
use Rattle.http_read.specs.declared.request.Limits.{Limits}
use Rattle.http_read.specs.declared.head_reader.HeadReader.{HeadReader}
use Rattle.http_read.specs.declared.body.BodyPlace.{BodyPlace}
use Rattle.http_read.specs.RequestParts.{RequestParts}
use Rattle.http_read.specs.Head.{BeginsHead, IsHeadFront}
use Rattle.http_read.specs.LookedAt.{HasLookedAt}
use Rattle.http_read.specs.BodyForm.{IsBodyFront}
use Rattle.http_read.specs.BodyPlaces.{begun_len}
use Rattle.conn_state.specs.declared.stage.Stage.{Stage}
use Rattle.conn_state.specs.declared.stage.Stage.TheVariants as stage
use Rattle.conn_state.specs.declared.steps.StepAnswer.{StepAnswer}
use Rattle.conn_state.specs.declared.steps.StepAnswer.TheVariants as step
use Rattle.conn_state.specs.Rest.{StandsAs, is_awaited, is_in_head, is_in_body, is_whole, is_refused}
use Rattle.http_read.specs.Sizes.{greatest_head, greatest_trailer}

-- the client is to be told to send the body
abbrev pub is_told : StepAnswer → Bool
is_told step.Whole = false
is_told step.Refused = false
is_told step.Accepted = false
is_told step.Awaited = true
is_told step.Wants = false
is_told step.NoMemory = false

-- the step went from the head of the next request to its body, whose client waits to be told to send it or doesn't
pub record PassesHead (awaited : Bool) (s s' : Stage) : Type 0 where
  pub in_head : is_in_head s ≡ true
  pub in_body : is_in_body s' ≡ true
  pub awaited_is : is_awaited s' ≡ awaited

-- the step stays in the same part of the next request
pub record StaysInPart (s s' : Stage) : Type 0 where
  pub same_head : is_in_head s' ≡ is_in_head s
  pub same_body : is_in_body s' ≡ is_in_body s
  pub in_part : (is_in_head s' || is_in_body s') ≡ true

-- the next request is whole, and its head was accepted before
pub record EndsBody (s s' : Stage) : Type 0 where
  pub behind_head : is_in_head s ≡ false
  pub whole : is_whole s' ≡ true

-- memory lacked for the head of the next request
pub record LacksInHead (s s' : Stage) : Type 0 where
  pub in_head : is_in_head s ≡ true
  pub stays : is_in_head s' ≡ true

-- what the step found of the next request
abbrev pub StepFinds : StepAnswer → Stage → Stage → Type 0
StepFinds step.Whole s s' = EndsBody s s'
StepFinds step.Refused s s' = is_refused s' ≡ true
StepFinds step.Accepted s s' = PassesHead false s s'
StepFinds step.Awaited s s' = PassesHead true s s'
StepFinds step.Wants s s' = StaysInPart s s'
StepFinds step.NoMemory s s' = LacksInHead s s'

-- more of the head has to come, and the reader has looked at all that is there
pub record WaitsInHead (limits : Limits) (unread : List ℕ) (reader : HeadReader) (rest : List ℕ) : Type 0 where
  pub front : IsHeadFront limits rest
  pub looked : reader.looked ≡ length unread

-- more of the body has to come; the unread bytes are the line of it that isn't whole, and the reader has looked at all of them
pub record WaitsInBody (limits : Limits) (unread : List ℕ) (request : RequestParts) (reader : BodyPlace) (rest : List ℕ) : Type 0 where
  pub head_len : ℕ
  pub head : BeginsHead limits rest request head_len
  pub front : IsBodyFront request.body (drop head_len rest) unread
  pub looked : begun_len reader ≡ length unread

-- more of the next request has to come, and all that is there was read
abbrev pub WaitsIn : Limits → List ℕ → Stage → List ℕ → Type 0
WaitsIn limits unread (stage.Head reader) rest = WaitsInHead limits unread reader rest
WaitsIn limits unread (stage.Body request reader) rest = WaitsInBody limits unread request reader rest
WaitsIn limits unread (stage.Whole request) rest = ⊥
WaitsIn limits unread (stage.Refused code expected) rest = ⊥

-- more has to come where the step says so
abbrev pub StepWants : StepAnswer → Limits → List ℕ → Stage → List ℕ → Type 0
StepWants step.Whole limits unread s rest = ⊤
StepWants step.Refused limits unread s rest = ⊤
StepWants step.Accepted limits unread s rest = ⊤
StepWants step.Awaited limits unread s rest = ⊤
StepWants step.Wants limits unread s rest = WaitsIn limits unread s rest
StepWants step.NoMemory limits unread s rest = ⊤

-- the readers may go on with the bytes that are there
abbrev pub IsReadable : List ℕ → Stage → Type 0
IsReadable unread (stage.Head reader) = (reader.looked ≤ length unread) × HasLookedAt (take reader.looked unread) reader
IsReadable unread (stage.Body request reader) = begun_len reader ≤ length unread
IsReadable unread (stage.Whole request) = ⊤
IsReadable unread (stage.Refused code expected) = ⊤

-- no more bytes are there than a head may have, or a line of a body that isn't whole
abbrev pub IsShortIn : List ℕ → Stage → Type 0
IsShortIn unread (stage.Head reader) = length unread ≤ greatest_head
IsShortIn unread (stage.Body request reader) = length unread < greatest_trailer
IsShortIn unread (stage.Whole request) = ⊥
IsShortIn unread (stage.Refused code expected) = ⊥

-- few bytes are kept where more has to come
abbrev pub StepKeeps : StepAnswer → List ℕ → Stage → Type 0
StepKeeps step.Whole unread s = ⊤
StepKeeps step.Refused unread s = ⊤
StepKeeps step.Accepted unread s = ⊤
StepKeeps step.Awaited unread s = ⊤
StepKeeps step.Wants unread s = IsShortIn unread s
StepKeeps step.NoMemory unread s = ⊤

-- a step through the bytes that are there: what is kept stands for the same bytes
pub record Steps (limits : Limits) (unread unread' : List ℕ) (s s' : Stage) (answer : StepAnswer) : Type 0 where
  pub stands : (rest : List ℕ) → StandsAs limits unread s rest → StandsAs limits unread' s' rest
  pub wants : (rest : List ℕ) → StandsAs limits unread s rest → StepWants answer limits unread' s' rest
  pub keeps : (rest : List ℕ) → StandsAs limits unread s rest → StepKeeps answer unread' s'
  pub no_more : length unread' ≤ length unread
  pub finds : StepFinds answer s s'
  pub told_once : is_awaited s' ≡ (is_awaited s || is_told answer)
  pub not_twice : is_told answer ≡ true → is_awaited s ≡ false
