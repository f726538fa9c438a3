-- The items of the bytes that a connection received: whole requests, one behind the other, and at most one refusal, behind
-- which nothing is read (RFC 9112, sections 2.2 and 9.3.2).
use Rattle.std.specs.Prelude.{◌≡◌, ◌⊎◌, ℕ, List, [], ◌∷◌, Option, Some, None, IfSome}
use Rattle.std.proofs.Common.{inl, inr}
use Rattle.http_read.specs.declared.request.Limits.{Limits}
use Rattle.http_read.specs.RequestParts.{RequestParts}
use Rattle.http_read.specs.Requests.{ReadRefusal, BeginsWholeRequest, BeginsRefusal, SpellsRequests}

-- a whole request, by what its head says, or a refusal
abbrev pub Item : Type 0
Item = RequestParts ⊎ ReadRefusal

-- the item stands at the front of the bytes and has so many of them; a refusal takes none
abbrev pub BeginsItem : Limits → List ℕ → Item → ℕ → Type 0
BeginsItem limits bytes (inl request) size = BeginsWholeRequest limits bytes request size
BeginsItem limits bytes (inr refusal) size = BeginsRefusal limits bytes refusal × (size ≡ 0)

-- the requests as items, each without its size, and behind them the refusal where there is one
abbrev pub items_of : List (RequestParts × ℕ) → Option ReadRefusal → List Item
items_of [] None = []
items_of [] (Some refusal) = inr refusal ∷ []
items_of (request ∷ requests) refusal = inl request.0 ∷ items_of requests refusal

-- these are the first items of the bytes, in order, and this is left behind them
pub record AreFirst (limits : Limits) (items : List Item) (rest bytes : List ℕ) : Type 0 where
  pub requests : List (RequestParts × ℕ)
  pub refusal : Option ReadRefusal
  pub items_are : items ≡ items_of requests refusal
  pub spelled : SpellsRequests limits bytes requests rest
  pub refused : IfSome refusal (BeginsRefusal limits rest)
