-- Where an item stands at the front of the bytes, none has to come; and where more has to come, a client that waits was found.
use Rattle.std.proofs.Common.{◌≡◌, ◌≢◌, ◌==◌, ℕ, Bool, true, false, ◌&&◌, List, [], ◌∷◌, drop, length, inl, inr, refl, sym, ap, subst, ◌∙◌, arith}
use Rattle.std.proofs.lemmas.Bool.{false≢true}
use Rattle.std.proofs.lemmas.Bool.Decides.{nat_tests}
use Rattle.std.proofs.lemmas.List.Elements.{All-nil}
use Rattle.http_read.specs.declared.request.BodyKind.{BodyKind}
use Rattle.http_read.specs.declared.request.Limits.{Limits}
use Rattle.http_read.specs.declared.head.HeadAnswer.{HeadAnswer}
use Rattle.http_read.specs.declared.head.HeadAnswer.TheVariants as answer
use Rattle.http_read.specs.RequestParts.{RequestParts}
use Rattle.http_read.specs.Head.{BeginsHead, HeadIs, IsHeadFront}
use Rattle.http_read.specs.BodyForm.{BodyForm, WholeBody, BodyFront, BrokenBody, HasForm}
use Rattle.http_read.specs.Requests.{BeginsRefusal, WaitsForRequest}
use Rattle.conn_state.specs.declared.stage.Stage.{Stage}
use Rattle.conn_state.specs.declared.stage.Stage.TheVariants as stage
use Rattle.conn_state.specs.Items.{Item, BeginsItem}
use Rattle.conn_state.specs.Replies.{Expects}
use Rattle.conn_state.specs.Rest.{StandsAs, is_awaited, is_in_head}
use Rattle.conn_state.specs.Steps.{WaitsIn}

-- bytes have one answer about their head
abbrev pub OneHead : Type 0
OneHead = (limits : Limits) (bytes : List ℕ) (given other : HeadAnswer) → HeadIs limits bytes given → HeadIs limits bytes other
    → given ≢ answer.NoMemory → other ≢ answer.NoMemory → given ≡ other

-- bytes have one form of a body
abbrev pub OneBody : Type 0
OneBody = (of : BodyKind) (bytes : List ℕ) (form other : BodyForm) → HasForm of bytes form → HasForm of bytes other → form ≡ other

-- two heads at the front are one
pub same-head : OneHead → (limits : Limits) (bytes : List ℕ) (request asked : RequestParts) (n m : ℕ) → BeginsHead limits bytes request n → BeginsHead limits bytes asked m
    → (request ≡ asked) × (n ≡ m)
same-head one limits bytes request asked n m h k =
    let same = one limits bytes (answer.Whole request n) (answer.Whole asked m) h k (λ e. cc) (λ e. cc) in
    (cc, cc)

-- behind two heads at the front stands one form of a body
same-form : OneHead → OneBody → (limits : Limits) (bytes : List ℕ) (request asked : RequestParts) (n m : ℕ) (form other : BodyForm)
    → BeginsHead limits bytes request n → BeginsHead limits bytes asked m → HasForm request.body (drop n bytes) form → HasForm asked.body (drop m bytes) other → form ≡ other
same-form one_head one_body limits bytes request asked n m form other h k has had =
    let same = same-head one_head limits bytes request asked n m h k in
    one_body asked.body (drop m bytes) form other
    (subst (λ l. HasForm asked.body (drop l bytes) form) same.1 (subst (λ r. HasForm r.body (drop n bytes) form) same.0 has)) had

-- an accepted head at the front of bytes that wait for more has the front of a body behind it
waits-behind : OneHead → OneBody → (limits : Limits) (bytes : List ℕ) (request : RequestParts) (n : ℕ) (form : BodyForm) → BeginsHead limits bytes request n
    → HasForm request.body (drop n bytes) form → WaitsForRequest limits bytes → (line : List ℕ) × (form ≡ BodyFront line)
waits-behind one_head one_body limits bytes request n form h has (inl front) =
    absurd (let same = one_head limits bytes (answer.Whole request n) answer.More h front (λ e. cc) (λ e. cc) in cc)
waits-behind one_head one_body limits bytes request n form h has (inr w) =
    (w.line, same-form one_head one_body limits bytes request w.request n w.head_len form (BodyFront w.line) h w.head has w.front)

-- bytes that wait for more begin with no item
pub waits-apart : OneHead → OneBody → (limits : Limits) (bytes : List ℕ) (item : Item) (size : ℕ) → BeginsItem limits bytes item size → ¬ (WaitsForRequest limits bytes)
waits-apart one_head one_body limits bytes (inl request) size b waits =
    let front = waits-behind one_head one_body limits bytes request b.head_len (WholeBody b.body_len) b.head b.body waits in
    absurd (let same = front.1 in cc)
waits-apart one_head one_body limits bytes (inr refusal) size (inl refused, none) (inl front) =
    absurd (let same = one_head limits bytes (answer.Refused refusal.code) answer.More refused.0 front (λ e. cc) (λ e. cc) in cc)
waits-apart one_head one_body limits bytes (inr refusal) size (inl refused, none) (inr w) =
    absurd (let same = one_head limits bytes (answer.Refused refusal.code) (answer.Whole w.request w.head_len) refused.0 w.head (λ e. cc) (λ e. cc) in cc)
waits-apart one_head one_body limits bytes (inr refusal) size (inr broken, none) waits =
    let front = waits-behind one_head one_body limits bytes broken.request broken.head_len (BrokenBody refusal.code) broken.head broken.broken waits in
    absurd (let same = front.1 in cc)

-- ## The client that waits to be told to send the body

-- a step that asks for more has bytes that wait for it
pub waits-for_request : (limits : Limits) (unread : List ℕ) (s : Stage) (rest : List ℕ) → WaitsIn limits unread s rest → WaitsForRequest limits rest
waits-for_request limits unread (stage.Head reader) rest w = inl w.front
waits-for_request limits unread (stage.Body request reader) rest w =
    inr (record { request = request; head_len = w.head_len; line = unread; head = w.head; front = w.front })
waits-for_request limits unread (stage.Whole request) rest w = absurd w
waits-for_request limits unread (stage.Refused code expected) rest w = absurd w

-- the client was found before a step asks for more
pub client-found : OneHead → (limits : Limits) (unread : List ℕ) (s : Stage) (rest : List ℕ) → WaitsIn limits unread s rest → Expects limits rest → is_awaited s ≡ true
client-found one limits unread (stage.Head reader) rest w e =
    absurd (let same = one limits rest (answer.Whole e.request e.head_len) answer.More e.head w.front (λ e. cc) (λ e. cc) in cc)
client-found one limits unread (stage.Body request reader) rest w e =
    ap (λ (r : RequestParts). r.expects) (same-head one limits rest request e.request w.head_len e.head_len w.head e.head).0 ∙ e.expects
client-found one limits unread (stage.Whole request) rest w e = absurd w
client-found one limits unread (stage.Refused code expected) rest w e = absurd w

-- a refusal behind an accepted head whose client waits
refused-expects : (limits : Limits) (code : ℕ) (expected : Bool) (rest : List ℕ) → BeginsRefusal limits rest (record { code = code; expected = expected })
    → expected ≡ true → Expects limits rest
refused-expects limits code expected rest (inl refused) is = absurd (false≢true (sym refused.1 ∙ is))
refused-expects limits code expected rest (inr broken) is =
    record { request = broken.request; head_len = broken.head_len; head = broken.head; expects = sym broken.expected_is ∙ is }

-- no other client is found
pub found-expects : (limits : Limits) (unread : List ℕ) (s : Stage) (rest : List ℕ) → StandsAs limits unread s rest → is_awaited s ≡ true → Expects limits rest
found-expects limits unread (stage.Head reader) rest h is = absurd (false≢true is)
found-expects limits unread (stage.Body request reader) rest h is = record { request = request; head_len = h.head_len; head = h.head; expects = is }
found-expects limits unread (stage.Whole request) rest h is =
    record { request = request; head_len = h.whole.head_len; head = h.whole.head; expects = is }
found-expects limits unread (stage.Refused code expected) rest h is = refused-expects limits code expected rest h is

-- ## Where no byte stands behind the answered requests

-- no byte is a front of a head
pub none-front : (limits : Limits) → IsHeadFront limits []
none-front limits = record {
  small = omega arith;
  unended = inl (record { blank = []; front = []; blank_lines = All-nil _; front_line = All-nil _; short = omega arith; bytes_are = refl });
}

-- some byte is there
some-byte : (rest : List ℕ) → (rest ≡ [] → ⊥) → false ≡ (length rest == 0)
some-byte [] none = absurd (none refl)
some-byte (byte ∷ rest) none =
    let some : (length (byte ∷ rest) == 0) ≡ false = grind (arith, nat_tests) in
    sym some

-- no head stands there where there is no byte
head-some : OneHead → (limits : Limits) (rest : List ℕ) (request : RequestParts) (n : ℕ) → BeginsHead limits rest request n → rest ≡ [] → ⊥
head-some one limits rest request n h none =
    absurd (let same = one limits rest (answer.Whole request n) answer.More h (subst (IsHeadFront limits) (sym none) (none-front limits)) (λ e. cc) (λ e. cc) in cc)

-- no item stands there
item-some : OneHead → OneBody → (limits : Limits) (rest : List ℕ) (item : Item) (size : ℕ) → BeginsItem limits rest item size → rest ≡ [] → ⊥
item-some one_head one_body limits rest item size b none =
    waits-apart one_head one_body limits rest item size b (inl (subst (IsHeadFront limits) (sym none) (none-front limits)))

-- nothing is kept then, and else something is
pub empty-rest : OneHead → OneBody → (limits : Limits) (unread : List ℕ) (s : Stage) (rest : List ℕ) → StandsAs limits unread s rest
    → (is_in_head s && (length unread == 0)) ≡ (length rest == 0)
empty-rest one_head one_body limits unread (stage.Head reader) rest h = ap (λ xs. length xs == 0) (sym h.rest_is)
empty-rest one_head one_body limits unread (stage.Body request reader) rest h = some-byte rest (head-some one_head limits rest request h.head_len h.head)
empty-rest one_head one_body limits unread (stage.Whole request) rest h =
    some-byte rest (item-some one_head one_body limits rest (inl request) h.size h.whole)
empty-rest one_head one_body limits unread (stage.Refused code expected) rest h =
    some-byte rest (item-some one_head one_body limits rest (inr (record { code = code; expected = expected })) 0 (h, refl))
