-- What is kept of the rest stands for the bytes that came behind it too.
use Rattle.std.proofs.Common.{ℕ, List, [], ◌∷◌, ◌++◌, drop, refl, sym, ap, subst, ◌∙◌, arith, append_assoc, length-append}
use Rattle.std.proofs.lemmas.List.{take-append-le, drop-append-le}
use Rattle.http_read.specs.declared.request.Limits.{Limits}
use Rattle.http_read.specs.declared.head_reader.HeadReader.{HeadReader}
use Rattle.http_read.specs.declared.body.BodyPlace.{BodyPlace}
use Rattle.http_read.specs.RequestParts.{RequestParts}
use Rattle.http_read.specs.LookedAt.{HasLookedAt}
use Rattle.http_read.specs.BodyPlaces.{StandsAt, begun_len}
use Rattle.conn_state.specs.declared.stage.Stage.{Stage}
use Rattle.conn_state.specs.declared.stage.Stage.TheVariants as stage
use Rattle.conn_state.specs.Replies.{Expects}
use Rattle.conn_state.specs.Rest.{StandsInHead, StandsInBody, StandsBehind, StandsAs}
use Rattle.conn_state.specs.Steps.{IsReadable}
use Rattle.conn_state.proofs.ItemLemmas.{KeepsHeads, KeepsSpelled, KeepsRefused, refused-more}

-- in a head
in_head-more : (limits : Limits) (unread more : List ℕ) (reader : HeadReader) (rest : List ℕ)
    → StandsInHead limits unread reader rest → StandsInHead limits (unread ++ more) reader (rest ++ more)
in_head-more limits unread more reader rest h = record {
  rest_is = ap (λ xs. xs ++ more) h.rest_is;
  limits_are = h.limits_are;
  within = omega (arith, h.within, length-append unread more);
  looked = subst (λ xs. HasLookedAt xs reader) (sym (take-append-le reader.looked unread more h.within)) h.looked;
}

-- in a body
in_body-more : KeepsHeads → (limits : Limits) (unread more : List ℕ) (request : RequestParts) (reader : BodyPlace) (rest : List ℕ)
    → StandsInBody limits unread request reader rest → StandsInBody limits (unread ++ more) request reader (rest ++ more)
in_body-more keeps limits unread more request reader rest h = record {
  head_len = h.head_len;
  taken = h.taken;
  head = keeps limits rest more request h.head_len h.head;
  body_is = drop-append-le h.head_len rest more h.head.ends.within ∙ ap (λ xs. xs ++ more) h.body_is ∙ append_assoc h.taken unread more;
  within = omega (arith, h.within, length-append unread more);
  stands = subst (λ xs. StandsAt request.body (h.taken ++ xs) reader) (sym (take-append-le (begun_len reader) unread more h.within)) h.stands;
}

-- behind a whole request
behind-more : KeepsSpelled → (limits : Limits) (unread more : List ℕ) (request : RequestParts) (rest : List ℕ)
    → StandsBehind limits unread request rest → StandsBehind limits (unread ++ more) request (rest ++ more)
behind-more keeps limits unread more request rest h =
    let kept = keeps limits rest more ((request, h.size) ∷ []) (drop h.size rest) (h.whole, refl) in
    record { size = h.size; whole = kept.0; unread_is = ap (λ xs. xs ++ more) h.unread_is ∙ kept.1 }

-- wherever the next request was read so far
pub stands-more : KeepsHeads → KeepsSpelled → KeepsRefused → (limits : Limits) (unread more : List ℕ) (s : Stage) (rest : List ℕ)
    → StandsAs limits unread s rest → StandsAs limits (unread ++ more) s (rest ++ more)
stands-more heads spelled refused limits unread more (stage.Head reader) rest h = in_head-more limits unread more reader rest h
stands-more heads spelled refused limits unread more (stage.Body request reader) rest h = in_body-more heads limits unread more request reader rest h
stands-more heads spelled refused limits unread more (stage.Whole request) rest h = behind-more spelled limits unread more request rest h
stands-more heads spelled refused limits unread more (stage.Refused code expected) rest h =
    refused-more refused limits rest more (record { code = code; expected = expected }) h

-- a head whose client waits to be told to send the body stays one
pub expects-more : KeepsHeads → (limits : Limits) (bytes more : List ℕ) → Expects limits bytes → Expects limits (bytes ++ more)
expects-more keeps limits bytes more e = record {
  request = e.request;
  head_len = e.head_len;
  head = keeps limits bytes more e.request e.head_len e.head;
  expects = e.expects;
}

-- the readers may go on with what stands for any bytes
pub stands-readable : (limits : Limits) (unread : List ℕ) (s : Stage) (rest : List ℕ) → StandsAs limits unread s rest → IsReadable unread s
stands-readable limits unread (stage.Head reader) rest h = (h.within, h.looked)
stands-readable limits unread (stage.Body request reader) rest h = h.within
stands-readable limits unread (stage.Whole request) rest h = tt
stands-readable limits unread (stage.Refused code expected) rest h = tt
