-- The requests that the bytes of a connection spell (RFC 9112, sections 2.2, 6.3 and 9.3.2), and what is left behind them.
use Rattle.std.specs.Prelude.{◌≡◌, ℕ, ◌+◌, ◌⊎◌, Bool, false, List, [], ◌∷◌, drop, Option, Some, None}
use Rattle.http_read.specs.declared.request.Limits.{Limits}
use Rattle.http_read.specs.RequestParts.{RequestParts}
use Rattle.http_read.specs.Head.{BeginsHead, IsHeadFront, IsRefusal}
use Rattle.http_read.specs.BodyForm.{BeginsBody, IsBodyFront, BreaksBody}

-- a whole request of so many bytes stands at the front: its head, and its body behind that
pub record BeginsWholeRequest (limits : Limits) (bytes : List ℕ) (request : RequestParts) (size : ℕ) : Type 0 where
  pub head_len : ℕ
  pub body_len : ℕ
  pub head : BeginsHead limits bytes request head_len
  pub body : BeginsBody request.body (drop head_len bytes) body_len
  pub size_is : size ≡ head_len + body_len

-- a refusal: its code, and whether a head that expects 100 Continue was accepted before it
pub record ReadRefusal : Type 0 where
  pub code : ℕ
  pub expected : Bool

-- a head stands at the front, and what follows it breaks the form of its body
pub record HasBrokenBody (limits : Limits) (bytes : List ℕ) (refusal : ReadRefusal) : Type 0 where
  pub request : RequestParts
  pub head_len : ℕ
  pub head : BeginsHead limits bytes request head_len
  pub broken : BreaksBody request.body (drop head_len bytes) refusal.code
  pub expected_is : refusal.expected ≡ request.expects

-- what stands at the front is refused: as a head, or as the body of one
abbrev pub BeginsRefusal : Limits → List ℕ → ReadRefusal → Type 0
BeginsRefusal limits bytes refusal =
    (IsRefusal limits bytes refusal.code × (refusal.expected ≡ false)) ⊎ HasBrokenBody limits bytes refusal

-- a head stands at the front, and more of its body has to come; the bytes end in this line, which isn't whole
pub record WaitsForBody (limits : Limits) (bytes : List ℕ) : Type 0 where
  pub request : RequestParts
  pub head_len : ℕ
  pub line : List ℕ
  pub head : BeginsHead limits bytes request head_len
  pub front : IsBodyFront request.body (drop head_len bytes) line

-- no whole request stands at the front, and no refusal: more has to come
abbrev pub WaitsForRequest : Limits → List ℕ → Type 0
WaitsForRequest limits bytes = IsHeadFront limits bytes ⊎ WaitsForBody limits bytes

-- the bytes begin with these whole requests, each with its size, one behind the other, and this is left behind them
abbrev pub SpellsRequests : Limits → List ℕ → List (RequestParts × ℕ) → List ℕ → Type 0
SpellsRequests limits bytes [] rest = rest ≡ bytes
SpellsRequests limits bytes (request ∷ requests) rest =
    BeginsWholeRequest limits bytes request.0 request.1 × SpellsRequests limits (drop request.1 bytes) requests rest

-- the rest is a refusal, or the front of a request that isn't whole
abbrev pub IsRemainder : Limits → List ℕ → Option ReadRefusal → Type 0
IsRemainder limits rest (Some refusal) = BeginsRefusal limits rest refusal
IsRemainder limits rest None = WaitsForRequest limits rest

-- these are all the items of the bytes: whole requests, then a refusal where one comes, behind which nothing is read; and this is the rest
pub record AreItems (limits : Limits) (bytes : List ℕ) (requests : List (RequestParts × ℕ)) (refusal : Option ReadRefusal) (rest : List ℕ) : Type 0 where
  pub spelled : SpellsRequests limits bytes requests rest
  pub left : IsRemainder limits rest refusal
