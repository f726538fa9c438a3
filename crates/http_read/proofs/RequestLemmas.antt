-- Bytes spell one list of requests, and what follows changes none of them.
use Rattle.std.proofs.Common.{◌≡◌, ◌≢◌, ℕ, ◌≤◌, inl, inr, false, List, [], ◌∷◌, ◌++◌, length, drop, Option, Some, None, refl, sym, ap, ◌∙◌, subst, arith}
use Rattle.std.proofs.lemmas.List.{drop-append-le, length-drop}
use Rattle.http_read.specs.declared.request.BodyKind.{BodyKind}
use Rattle.http_read.specs.declared.request.Limits.{Limits}
use Rattle.http_read.specs.declared.head.HeadAnswer.{HeadAnswer}
use Rattle.http_read.specs.declared.head.HeadAnswer.TheVariants as answer
use Rattle.http_read.specs.RequestParts.{RequestParts}
use Rattle.http_read.specs.Head.{BeginsHead, IsRefusal, HeadIs}
use Rattle.http_read.specs.BodyForm.{BodyForm, WholeBody, BodyFront, BrokenBody, HasForm, BeginsBody, BreaksBody}
use Rattle.http_read.specs.Requests.{BeginsWholeRequest, ReadRefusal, BeginsRefusal, SpellsRequests, IsRemainder, AreItems}

-- what stands at the front of bytes: a head that is refused or isn't whole, or a head with what follows it
data ReadFront : Type 0 where
  HeadOnly : HeadAnswer → ReadFront
  WithBody : RequestParts → ℕ → BodyForm → ReadFront

abbrev ReadFrontIs : Limits → List ℕ → ReadFront → Type 0
ReadFrontIs limits bytes (HeadOnly given) = HeadIs limits bytes given × (given ≢ answer.NoMemory) × ((request : RequestParts) (n : ℕ) → given ≢ answer.Whole request n)
ReadFrontIs limits bytes (WithBody request n form) = BeginsHead limits bytes request n × HasForm request.body (drop n bytes) form

-- the laws of heads and bodies
module _
    (one_head : (limits : Limits) (bytes : List ℕ) (given other : HeadAnswer) → HeadIs limits bytes given → HeadIs limits bytes other → given ≢ answer.NoMemory → other ≢ answer.NoMemory → given ≡ other)
    (one_body : (of : BodyKind) (bytes : List ℕ) (form other : BodyForm) → HasForm of bytes form → HasForm of bytes other → form ≡ other) where
  same_bodies : (limits : Limits) (bytes : List ℕ) (request asked : RequestParts) (n m : ℕ) (form other : BodyForm) → (request ≡ asked) × (n ≡ m) → HasForm request.body (drop n bytes) form → HasForm asked.body (drop m bytes) other → form ≡ other
  same_bodies limits bytes request asked n m form other same h k =
      one_body asked.body (drop m bytes) form other
      (subst (λ l. HasForm asked.body (drop l bytes) form) same.1 (subst (λ r. HasForm r.body (drop n bytes) form) same.0 h)) k

  same_whole : (limits : Limits) (bytes : List ℕ) (request asked : RequestParts) (n m : ℕ) → BeginsHead limits bytes request n → BeginsHead limits bytes asked m → (request ≡ asked) × (n ≡ m)
  same_whole limits bytes request asked n m h k =
      let same = one_head limits bytes (answer.Whole request n) (answer.Whole asked m) h k (λ e. cc) (λ e. cc) in
      (cc, cc)

  same_fronts : (limits : Limits) (bytes : List ℕ) (front other : ReadFront) → ReadFrontIs limits bytes front → ReadFrontIs limits bytes other → front ≡ other
  same_fronts limits bytes (HeadOnly given) (HeadOnly other) h k = ap HeadOnly (one_head limits bytes given other h.0 k.0 h.1 k.1)
  same_fronts limits bytes (HeadOnly given) (WithBody asked m form) h k =
      absurd (h.2 asked m (one_head limits bytes given (answer.Whole asked m) h.0 k.0 h.1 (λ e. cc)))
  same_fronts limits bytes (WithBody request n form) (HeadOnly other) h k =
      absurd (k.2 request n (one_head limits bytes other (answer.Whole request n) k.0 h.0 k.1 (λ e. cc)))
  same_fronts limits bytes (WithBody request n form) (WithBody asked m other) h k =
      let same = same_whole limits bytes request asked n m h.0 k.0 in
      let forms = same_bodies limits bytes request asked n m form other same h.1 k.1 in
      let requests = same.0 in
      let sizes = same.1 in
      cc

  -- what the front of bytes is, by what is said of it
  front_whole : (limits : Limits) (bytes : List ℕ) (request : RequestParts) (size : ℕ) (h : BeginsWholeRequest limits bytes request size) → ReadFrontIs limits bytes (WithBody request h.head_len (WholeBody h.body_len))
  front_whole limits bytes request size h = (h.head, h.body)

  -- a rest as a front
  abbrev LeftFront : Limits → List ℕ → Option ReadRefusal → ReadFront → Type 0
  LeftFront limits rest (Some refusal) (HeadOnly given) = (given ≡ answer.Refused refusal.code) × (refusal.expected ≡ false)
  LeftFront limits rest (Some refusal) (WithBody request n form) = (form ≡ BrokenBody refusal.code) × (refusal.expected ≡ request.expects)
  LeftFront limits rest None (HeadOnly given) = given ≡ answer.More
  LeftFront limits rest None (WithBody request n form) = (line : List ℕ) × (form ≡ BodyFront line)

  left_front : (limits : Limits) (rest : List ℕ) (refusal : Option ReadRefusal) → IsRemainder limits rest refusal → (front : ReadFront) × (ReadFrontIs limits rest front × LeftFront limits rest refusal front)
  left_front limits rest (Some refusal) (inl h) = (HeadOnly (answer.Refused refusal.code), ((h.0, (λ e. cc), (λ request n e. cc)), (refl, h.1)))
  left_front limits rest (Some refusal) (inr h) = (WithBody h.request h.head_len (BrokenBody refusal.code), ((h.head, h.broken), (refl, h.expected_is)))
  left_front limits rest None (inl h) = (HeadOnly answer.More, ((h, (λ e. cc), (λ request n e. cc)), refl))
  left_front limits rest None (inr h) = (WithBody h.request h.head_len (BodyFront h.line), ((h.head, h.front), (h.line, refl)))

  -- a rest begins with no whole request
  not_whole : (limits : Limits) (rest : List ℕ) (request : RequestParts) (n m : ℕ) (refusal : Option ReadRefusal) → LeftFront limits rest refusal (WithBody request n (WholeBody m)) → ⊥
  not_whole limits rest request n m (Some refusal) h = let e = h.0 in cc
  not_whole limits rest request n m None h = let e = h.1 in cc

  whole_or_left : (limits : Limits) (bytes : List ℕ) (request : RequestParts) (size : ℕ) (refusal : Option ReadRefusal) → BeginsWholeRequest limits bytes request size → IsRemainder limits bytes refusal → ⊥
  whole_or_left limits bytes request size refusal h left =
      let front = left_front limits bytes refusal left in
      let same = same_fronts limits bytes front.0 (WithBody request h.head_len (WholeBody h.body_len)) front.1.0 (h.head, h.body) in
      not_whole limits bytes request h.head_len h.body_len refusal (subst (LeftFront limits bytes refusal) same front.1.1)

  same_requests : (limits : Limits) (bytes : List ℕ) (request asked : RequestParts) (size other : ℕ) → BeginsWholeRequest limits bytes request size → BeginsWholeRequest limits bytes asked other → (request ≡ asked) × (size ≡ other)
  same_requests limits bytes request asked size other h k =
      let same = same_fronts limits bytes (WithBody request h.head_len (WholeBody h.body_len)) (WithBody asked k.head_len (WholeBody k.body_len)) (h.head, h.body) (k.head, k.body) in
      let heads : h.head_len ≡ k.head_len = cc in
      let bodies : h.body_len ≡ k.body_len = cc in
      (cc, omega (arith, h.size_is, k.size_is, heads, bodies))

  same_left : (limits : Limits) (rest : List ℕ) (refusal other : Option ReadRefusal) → IsRemainder limits rest refusal → IsRemainder limits rest other → refusal ≡ other
  same_left limits rest refusal other h k =
      let front = left_front limits rest refusal h in
      let seen = left_front limits rest other k in
      let same = same_fronts limits rest seen.0 front.0 seen.1.0 front.1.0 in
      told limits rest refusal other front.0 front.1.1 (subst (LeftFront limits rest other) same seen.1.1)
    where
      refusals : (refusal other : ReadRefusal) → refusal.code ≡ other.code → refusal.expected ≡ other.expected → Some refusal ≡ Some other
      refusals refusal other codes expected = λ i. Some (record { code = codes i; expected = expected i })

      told : (limits : Limits) (rest : List ℕ) (refusal other : Option ReadRefusal) (front : ReadFront) → LeftFront limits rest refusal front → LeftFront limits rest other front → refusal ≡ other
      told limits rest (Some refusal) (Some other) (HeadOnly given) h k =
          let same = sym h.0 ∙ k.0 in
          refusals refusal other (cc) (h.1 ∙ sym k.1)
      told limits rest (Some refusal) (Some other) (WithBody request n form) h k =
          let same = sym h.0 ∙ k.0 in
          refusals refusal other (cc) (h.1 ∙ sym k.1)
      told limits rest (Some refusal) None (HeadOnly given) h k = let same = sym h.0 ∙ k in cc
      told limits rest (Some refusal) None (WithBody request n form) h k = let same = sym h.0 ∙ k.1 in cc
      told limits rest None (Some other) (HeadOnly given) h k = let same = sym h ∙ k.0 in cc
      told limits rest None (Some other) (WithBody request n form) h k = let same = sym h.1 ∙ k.0 in cc
      told limits rest None None front h k = refl

  pub record SameItems (requests others : List (RequestParts × ℕ)) (refusal other : Option ReadRefusal) (rest left : List ℕ) : Type 0 where
    pub same_requests : requests ≡ others
    pub same_refusal : refusal ≡ other
    pub same_rest : rest ≡ left

  pub same_items : (limits : Limits) (bytes : List ℕ) (requests others : List (RequestParts × ℕ)) (refusal other : Option ReadRefusal) (rest left : List ℕ)
      → SpellsRequests limits bytes requests rest → IsRemainder limits rest refusal → SpellsRequests limits bytes others left → IsRemainder limits left other → SameItems requests others refusal other rest left
  same_items limits bytes [] [] refusal other rest left s h t k =
      let same : rest ≡ left = s ∙ sym t in
      record { same_requests = refl; same_refusal = same_left limits left refusal other (subst (λ r. IsRemainder limits r refusal) same h) k; same_rest = same }
  same_items limits bytes [] (request ∷ others) refusal other rest left s h t k =
      absurd (whole_or_left limits bytes request.0 request.1 refusal t.0 (subst (λ r. IsRemainder limits r refusal) s h))
  same_items limits bytes (request ∷ requests) [] refusal other rest left s h t k =
      absurd (whole_or_left limits bytes request.0 request.1 other s.0 (subst (λ r. IsRemainder limits r other) t k))
  same_items limits bytes (request ∷ requests) (asked ∷ others) refusal other rest left s h t k =
      let first = same_requests limits bytes request.0 asked.0 request.1 asked.1 s.0 t.0 in
      let behind = same_items limits (drop asked.1 bytes) requests others refusal other rest left
      (subst (λ n. SpellsRequests limits (drop n bytes) requests rest) first.1 s.1) h t.1 k in
      record {
        same_requests = λ i. (first.0 i, first.1 i) ∷ behind.same_requests i;
        same_refusal = behind.same_refusal;
        same_rest = behind.same_rest;
      }

-- ## What follows changes nothing

module _
    (keeps_head : (limits : Limits) (bytes more : List ℕ) (request : RequestParts) (n : ℕ) → BeginsHead limits bytes request n → BeginsHead limits (bytes ++ more) request n)
    (keeps_refusal : (limits : Limits) (bytes more : List ℕ) (code : ℕ) → IsRefusal limits bytes code → IsRefusal limits (bytes ++ more) code)
    (keeps_body : (of : BodyKind) (bytes more : List ℕ) (n : ℕ) → BeginsBody of bytes n → BeginsBody of (bytes ++ more) n)
    (keeps_break : (of : BodyKind) (bytes more : List ℕ) (code : ℕ) → BreaksBody of bytes code → BreaksBody of (bytes ++ more) code) where
  behind_head : (limits : Limits) (bytes more : List ℕ) (request : RequestParts) (n : ℕ) → BeginsHead limits bytes request n → drop n bytes ++ more ≡ drop n (bytes ++ more)
  behind_head limits bytes more request n h = sym (drop-append-le n bytes more h.ends.within)

  whole_kept : (limits : Limits) (bytes more : List ℕ) (request : RequestParts) (size : ℕ) → BeginsWholeRequest limits bytes request size → BeginsWholeRequest limits (bytes ++ more) request size
  whole_kept limits bytes more request size h = record {
    head_len = h.head_len;
    body_len = h.body_len;
    head = keeps_head limits bytes more request h.head_len h.head;
    body = subst (λ b. BeginsBody request.body b h.body_len) (behind_head limits bytes more request h.head_len h.head)
        (keeps_body request.body (drop h.head_len bytes) more h.body_len h.body);
    size_is = h.size_is;
  }

  size_within : (limits : Limits) (bytes : List ℕ) (request : RequestParts) (size : ℕ) → BeginsWholeRequest limits bytes request size → size ≤ length bytes
  size_within limits bytes request size h =
      omega (arith, h.size_is, h.head.ends.within, h.body.within, length-drop h.head_len bytes)

  pub spelled_kept : (limits : Limits) (bytes more : List ℕ) (requests : List (RequestParts × ℕ)) (rest : List ℕ) → SpellsRequests limits bytes requests rest → SpellsRequests limits (bytes ++ more) requests (rest ++ more)
  spelled_kept limits bytes more [] rest s = ap (λ r. r ++ more) s
  spelled_kept limits bytes more (request ∷ requests) rest s =
      let behind : drop request.1 bytes ++ more ≡ drop request.1 (bytes ++ more) =
      sym (drop-append-le request.1 bytes more (size_within limits bytes request.0 request.1 s.0)) in (
        whole_kept limits bytes more request.0 request.1 s.0,
        subst (λ b. SpellsRequests limits b requests (rest ++ more)) behind (spelled_kept limits (drop request.1 bytes) more requests rest s.1),
      )

  refusal_left : (limits : Limits) (rest more : List ℕ) (refusal : ReadRefusal) → BeginsRefusal limits rest refusal → BeginsRefusal limits (rest ++ more) refusal
  refusal_left limits rest more refusal (inl h) = inl (keeps_refusal limits rest more refusal.code h.0, h.1)
  refusal_left limits rest more refusal (inr h) = inr (record {
    request = h.request;
    head_len = h.head_len;
    head = keeps_head limits rest more h.request h.head_len h.head;
    broken = subst (λ b. BreaksBody h.request.body b refusal.code) (behind_head limits rest more h.request h.head_len h.head)
        (keeps_break h.request.body (drop h.head_len rest) more refusal.code h.broken);
    expected_is = h.expected_is;
  })

  pub items_kept : (limits : Limits) (bytes more : List ℕ) (requests : List (RequestParts × ℕ)) (refusal : ReadRefusal) (rest : List ℕ) → AreItems limits bytes requests (Some refusal) rest → AreItems limits (bytes ++ more) requests (Some refusal) (rest ++ more)
  items_kept limits bytes more requests refusal rest h = record {
    spelled = spelled_kept limits bytes more requests rest h.spelled;
    left = refusal_left limits rest more refusal h.left;
  }
