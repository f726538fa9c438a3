-- What a connection keeps of the bytes that it received and didn't answer yet, and which bytes that stands for.
use Rattle.std.specs.Prelude.{◌≡◌, ℕ, ◌≤◌, Bool, true, false, List, ◌++◌, length, take, drop}
use Rattle.http_read.specs.declared.request.Limits.{Limits}
use Rattle.http_read.specs.declared.head_reader.HeadReader.{HeadReader}
use Rattle.http_read.specs.declared.body.BodyPlace.{BodyPlace}
use Rattle.http_read.specs.RequestParts.{RequestParts}
use Rattle.http_read.specs.Head.{BeginsHead}
use Rattle.http_read.specs.LookedAt.{HasLookedAt}
use Rattle.http_read.specs.BodyPlaces.{StandsAt, begun_len}
use Rattle.http_read.specs.Requests.{BeginsWholeRequest, BeginsRefusal}
use Rattle.conn_state.specs.declared.stage.Stage.{Stage}
use Rattle.conn_state.specs.declared.stage.Stage.TheVariants as stage

-- all bytes are there, and the reader has looked at a front of them
pub record StandsInHead (limits : Limits) (unread : List ℕ) (reader : HeadReader) (rest : List ℕ) : Type 0 where
  pub rest_is : rest ≡ unread
  pub limits_are : reader.limits ≡ limits
  pub within : reader.looked ≤ length unread
  pub looked : HasLookedAt (take reader.looked unread) reader

-- the bytes begin with the head, and the unread ones stand behind those of its body that the reader took
pub record StandsInBody (limits : Limits) (unread : List ℕ) (request : RequestParts) (reader : BodyPlace) (rest : List ℕ) : Type 0 where
  pub head_len : ℕ
  pub taken : List ℕ
  pub head : BeginsHead limits rest request head_len
  pub body_is : drop head_len rest ≡ taken ++ unread
  pub within : begun_len reader ≤ length unread
  pub stands : StandsAt request.body (taken ++ take (begun_len reader) unread) reader

-- the bytes begin with the whole request, and the unread ones stand behind it
pub record StandsBehind (limits : Limits) (unread : List ℕ) (request : RequestParts) (rest : List ℕ) : Type 0 where
  pub size : ℕ
  pub whole : BeginsWholeRequest limits rest request size
  pub unread_is : unread ≡ drop size rest

-- where the next request was read so far, these unread bytes stand for the rest: the bytes behind the answered requests
abbrev pub StandsAs : Limits → List ℕ → Stage → List ℕ → Type 0
StandsAs limits unread (stage.Head reader) rest = StandsInHead limits unread reader rest
StandsAs limits unread (stage.Body request reader) rest = StandsInBody limits unread request reader rest
StandsAs limits unread (stage.Whole request) rest = StandsBehind limits unread request rest
StandsAs limits unread (stage.Refused code expected) rest = BeginsRefusal limits rest (record { code = code; expected = expected })

-- the head of the next request was accepted, and its client waits to be told to send the body
abbrev pub is_awaited : Stage → Bool
is_awaited (stage.Head reader) = false
is_awaited (stage.Body request reader) = request.expects
is_awaited (stage.Whole request) = request.expects
is_awaited (stage.Refused code expected) = expected

-- the head of the next request isn't whole
abbrev pub is_in_head : Stage → Bool
is_in_head (stage.Head reader) = true
is_in_head (stage.Body request reader) = false
is_in_head (stage.Whole request) = false
is_in_head (stage.Refused code expected) = false

-- the head of the next request was accepted, and its body isn't whole
abbrev pub is_in_body : Stage → Bool
is_in_body (stage.Head reader) = false
is_in_body (stage.Body request reader) = true
is_in_body (stage.Whole request) = false
is_in_body (stage.Refused code expected) = false

-- the next request is whole
abbrev pub is_whole : Stage → Bool
is_whole (stage.Head reader) = false
is_whole (stage.Body request reader) = false
is_whole (stage.Whole request) = true
is_whole (stage.Refused code expected) = false

-- the next request is refused
abbrev pub is_refused : Stage → Bool
is_refused (stage.Head reader) = false
is_refused (stage.Body request reader) = false
is_refused (stage.Whole request) = false
is_refused (stage.Refused code expected) = true
