-- The first items of the bytes stay the first.
use Rattle.std.proofs.Common.{ℕ, List, [], ◌++◌, Option, Some, None, IfSome, refl}
use Rattle.http_read.specs.declared.request.Limits.{Limits}
use Rattle.http_read.specs.RequestParts.{RequestParts}
use Rattle.http_read.specs.Head.{BeginsHead}
use Rattle.http_read.specs.Requests.{ReadRefusal, SpellsRequests, BeginsRefusal, AreItems}
use Rattle.conn_state.specs.Items.{Item, AreFirst}

-- an accepted head stays one
abbrev pub KeepsHeads : Type 0
KeepsHeads = (limits : Limits) (bytes more : List ℕ) (request : RequestParts) (head_len : ℕ)
    → BeginsHead limits bytes request head_len → BeginsHead limits (bytes ++ more) request head_len

-- spelled requests stay so
abbrev pub KeepsSpelled : Type 0
KeepsSpelled = (limits : Limits) (bytes more : List ℕ) (requests : List (RequestParts × ℕ)) (rest : List ℕ)
    → SpellsRequests limits bytes requests rest → SpellsRequests limits (bytes ++ more) requests (rest ++ more)

-- a refusal behind them stays one
abbrev pub KeepsRefused : Type 0
KeepsRefused = (limits : Limits) (bytes more : List ℕ) (requests : List (RequestParts × ℕ)) (refusal : ReadRefusal) (rest : List ℕ)
    → AreItems limits bytes requests (Some refusal) rest → AreItems limits (bytes ++ more) requests (Some refusal) (rest ++ more)

-- a refusal stays one
pub refused-more : KeepsRefused → (limits : Limits) (bytes more : List ℕ) (refusal : ReadRefusal) → BeginsRefusal limits bytes refusal → BeginsRefusal limits (bytes ++ more) refusal
refused-more keeps limits bytes more refusal b = (keeps limits bytes more [] refusal bytes (record { spelled = refl; left = b })).left

-- a refusal that may be there stays
may_refuse-more : KeepsRefused → (limits : Limits) (bytes more : List ℕ) (refusal : Option ReadRefusal)
    → IfSome refusal (BeginsRefusal limits bytes) → IfSome refusal (BeginsRefusal limits (bytes ++ more))
may_refuse-more keeps limits bytes more None b = tt
may_refuse-more keeps limits bytes more (Some refusal) b = refused-more keeps limits bytes more refusal b

-- the first items stay the first
pub first-more : KeepsSpelled → KeepsRefused → (limits : Limits) (items : List Item) (rest bytes more : List ℕ)
    → AreFirst limits items rest bytes → AreFirst limits items (rest ++ more) (bytes ++ more)
first-more spelled refused limits items rest bytes more h = record {
  requests = h.requests;
  refusal = h.refusal;
  items_are = h.items_are;
  spelled = spelled limits bytes more h.requests rest h.spelled;
  refused = may_refuse-more refused limits rest more h.refusal h.refused;
}
