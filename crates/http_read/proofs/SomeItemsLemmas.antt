-- Bytes have a list of items: requests, read one behind the other, and what is left behind them.
use Rattle.std.proofs.Common.{◌≡◌, ℕ, zero, suc, ◌+◌, ◌<◌, inl, inr, false, List, [], ◌∷◌, ◌++◌, length, drop, refl, ap, arith}
use Rattle.std.specs.Prelude.{Option, Some, None}
use Rattle.std.proofs.lemmas.List.{length-append, length-drop, length-take-le}
use Rattle.http_read.specs.declared.request.Limits.{Limits}
use Rattle.http_read.specs.declared.head.HeadAnswer.{HeadAnswer}
use Rattle.http_read.specs.declared.head.HeadAnswer.TheVariants as answer
use Rattle.http_read.specs.RequestParts.{RequestParts}
use Rattle.http_read.specs.HeadLines.{print_lines}
use Rattle.http_read.specs.Head.{BeginsHead, HeadIs}
use Rattle.http_read.specs.BodyForm.{BodyForm, WholeBody, BodyFront, BrokenBody, HasForm}
use Rattle.http_read.specs.Requests.{ReadRefusal, BeginsWholeRequest, AreItems}
use Rattle.http_read.proofs.SomeAnswerLemmas.{some_answer}
use Rattle.http_read.proofs.FormLemmas.{some_form}

-- items of the bytes
pub record SomeItems (limits : Limits) (bytes : List ℕ) : Type 0 where
  pub requests : List (RequestParts × ℕ)
  pub refusal : Option ReadRefusal
  pub rest : List ℕ
  pub are : AreItems limits bytes requests refusal rest

-- a head has some bytes
some_bytes : (limits : Limits) (bytes : List ℕ) (request : RequestParts) (n : ℕ) → BeginsHead limits bytes request n → 0 < n
some_bytes limits bytes request n h =
    let text = h.ends.text in
    omega (
      arith,
      length-take-le n bytes h.ends.within,
      ap length text.text_is,
      length-append (print_lines text.lines) (text.end ++ 10 ∷ []),
      length-append text.end (10 ∷ []),
    )

-- one request in front of the items behind it
in_front : (limits : Limits) (bytes : List ℕ) (request : RequestParts) (size : ℕ) → BeginsWholeRequest limits bytes request size → SomeItems limits (drop size bytes) → SomeItems limits bytes
in_front limits bytes request size whole items = record {
  requests = (request, size) ∷ items.requests;
  refusal = items.refusal;
  rest = items.rest;
  are = record { spelled = (whole, items.are.spelled); left = items.are.left };
}

items_within : (n : ℕ) (limits : Limits) (bytes : List ℕ) → length bytes < n → SomeItems limits bytes
items_within zero limits bytes few = absurd (omega arith)
items_within (suc n) limits bytes few =
    let some = some_answer limits bytes in
    by_answer (items_within n limits) some.given some.is some.known
  where
    by_form : ((behind : List ℕ) → length behind < n → SomeItems limits behind) → (request : RequestParts) (head_len : ℕ) → BeginsHead limits bytes request head_len → (form : BodyForm) → HasForm request.body (drop head_len bytes) form → SomeItems limits bytes
    by_form further request head_len head (WholeBody m) body =
        let size : ℕ = head_len + m in
        let fewer : length (drop size bytes) < n = omega (arith, few, length-drop size bytes, head.ends.within, some_bytes limits bytes request head_len head) in
        in_front limits bytes request size (record { head_len = head_len; body_len = m; head = head; body = body; size_is = refl })
        (further (drop size bytes) fewer)
    by_form further request head_len head (BodyFront line) front = record {
      requests = [];
      refusal = None;
      rest = bytes;
      are = record { spelled = refl; left = inr (record { request = request; head_len = head_len; line = line; head = head; front = front }) };
    }
    by_form further request head_len head (BrokenBody code) broken = record {
      requests = [];
      refusal = Some (record { code = code; expected = request.expects });
      rest = bytes;
      are = record { spelled = refl; left = inr (record { request = request; head_len = head_len; head = head; broken = broken; expected_is = refl }) };
    }

    by_answer : ((behind : List ℕ) → length behind < n → SomeItems limits behind) → (given : HeadAnswer) → HeadIs limits bytes given → (given ≡ answer.NoMemory → ⊥) → SomeItems limits bytes
    by_answer further (answer.Whole request head_len) head known =
        let form = some_form request.body (drop head_len bytes) in
        by_form further request head_len head form.0 form.1
    by_answer further answer.More front known = record { requests = []; refusal = None; rest = bytes; are = record { spelled = refl; left = inl front } }
    by_answer further (answer.Refused code) refused known = record {
      requests = [];
      refusal = Some (record { code = code; expected = false });
      rest = bytes;
      are = record { spelled = refl; left = inl (refused, refl) };
    }
    by_answer further answer.NoMemory any known = absurd (known refl)

pub some_items : (limits : Limits) (bytes : List ℕ) → SomeItems limits bytes
some_items limits bytes = items_within (length bytes + 1) limits bytes (omega arith)
