-- How the reply stream goes on.
use Rattle.std.proofs.Common.{◌≡◌, ℕ, ◌<◌, inl, inr, false, List, [], ◌∷◌, ◌++◌, drop, length, Option, Some, None, refl, sym, ap, subst, ◌∙◌, arith, append_assoc, length-append}
use Rattle.std.proofs.lemmas.Bool.{false≢true}
use Rattle.std.proofs.lemmas.List.{append-nil}
use Rattle.mpm_base.specs.Notes.{says_last}
use Rattle.mpm_base.specs.declared.note.Note.{Note}
use Rattle.http_read.specs.declared.request.Limits.{Limits}
use Rattle.http_read.specs.RequestParts.{RequestParts}
use Rattle.http_read.specs.Requests.{ReadRefusal, BeginsWholeRequest, BeginsRefusal, SpellsRequests}
use Rattle.file_table.specs.Site.{SeenSite}
use Rattle.http_core.specs.Ask.{plan_for}
use Rattle.http_core.specs.Reply.{head_of, refusal_head}
use Rattle.http_core.specs.declared.code.Code.{Code}
use Rattle.http_core.specs.declared.plan.Plan.{Plan}
use Rattle.http_core.specs.declared.reply.Reply.{Reply}
use Rattle.conn_state.specs.Items.{Item, BeginsItem, items_of, AreFirst}
use Rattle.conn_state.specs.Replies.{IsNoteFor, IsLastWhere, AreNotesOf, IsFitting, IsReplyTo, IsResponse, AreReplies, body_bytes, first_part, item_ask}
use Rattle.conn_state.proofs.ItemLemmas.{KeepsSpelled, KeepsRefused, first-more}

-- ## More bytes

-- the first items of the bytes stay the first, with their notes, whatever comes behind them
pub fitting-more : KeepsSpelled → KeepsRefused → (site : SeenSite) (limits : Limits) (notes : List Note) (bytes : List ℕ) (items : List Item) (rest more : List ℕ)
    → IsFitting site limits notes bytes items rest → IsFitting site limits notes (bytes ++ more) items (rest ++ more)
fitting-more spelled refused site limits notes bytes items rest more fits =
    record { first = first-more spelled refused limits items rest bytes more fits.first; noted = fits.noted }

-- ## A further note

-- where the last note leaves the connection open, so does the last of those behind the first
open_behind : (note : Note) (notes : List Note) → says_last (note ∷ notes) ≡ false → says_last notes ≡ false
open_behind note [] goes_on = refl
open_behind note (next ∷ notes) goes_on = goes_on

-- a note that left the connection open may have another one behind it
last_where-snoc : (note : Note) (notes : List Note) (added : Note) → IsLastWhere note notes → says_last (note ∷ notes) ≡ false
    → IsLastWhere note (notes ++ added ∷ [])
last_where-snoc note [] added last goes_on = goes_on
last_where-snoc note (next ∷ notes) added last goes_on = last

-- the further item has its note
noted-snoc : (site : SeenSite) (items : List Item) (notes : List Note) (item : Item) (note : Note)
    → AreNotesOf site items notes → says_last notes ≡ false → IsNoteFor (item_ask site item) note
    → AreNotesOf site (items ++ item ∷ []) (notes ++ note ∷ [])
noted-snoc site [] [] item note are goes_on noted = (noted, tt, tt)
noted-snoc site [] (first ∷ notes) item note are goes_on noted = absurd are
noted-snoc site (first ∷ items) [] item note are goes_on noted = absurd are
noted-snoc site (first ∷ items) (next ∷ notes) item note are goes_on noted = (
  are.0,
  last_where-snoc next notes note are.1 goes_on,
  noted-snoc site items notes item note are.2 (open_behind next notes goes_on) noted,
)

-- ## A further item

-- where the notes leave the connection open, none of the items is a refusal
none-refused : (site : SeenSite) (requests : List (RequestParts × ℕ)) (refusal : Option ReadRefusal) (notes : List Note)
    → AreNotesOf site (items_of requests refusal) notes → says_last notes ≡ false → refusal ≡ None
none-refused site [] None notes are goes_on = refl
none-refused site [] (Some refusal) [] are goes_on = absurd are
none-refused site [] (Some refusal) (note ∷ []) are goes_on = absurd (false≢true (sym goes_on ∙ are.0.last are.0.asked_close))
none-refused site [] (Some refusal) (note ∷ (next ∷ notes)) are goes_on = absurd are.2
none-refused site (request ∷ requests) refusal [] are goes_on = absurd are
none-refused site (request ∷ requests) refusal (note ∷ notes) are goes_on =
    none-refused site requests refusal notes are.2 (open_behind note notes goes_on)

-- a further request is an item behind the others
items-request : (requests : List (RequestParts × ℕ)) (request : RequestParts) (size : ℕ)
    → items_of (requests ++ (request, size) ∷ []) None ≡ items_of requests None ++ inl request ∷ []
items-request [] request size = refl
items-request (first ∷ requests) request size = ap (λ (xs : List Item). inl first.0 ∷ xs) (items-request requests request size)

-- a refusal is an item behind the others
items-refusal : (requests : List (RequestParts × ℕ)) (refusal : ReadRefusal) → items_of requests (Some refusal) ≡ items_of requests None ++ inr refusal ∷ []
items-refusal [] refusal = refl
items-refusal (first ∷ requests) refusal = ap (λ (xs : List Item). inl first.0 ∷ xs) (items-refusal requests refusal)

-- a further request is spelled behind the others
spelled-snoc : (limits : Limits) (bytes : List ℕ) (requests : List (RequestParts × ℕ)) (rest : List ℕ) (request : RequestParts) (size : ℕ)
    → SpellsRequests limits bytes requests rest → BeginsWholeRequest limits rest request size
    → SpellsRequests limits bytes (requests ++ (request, size) ∷ []) (drop size rest)
spelled-snoc limits bytes [] rest request size spelled whole = (subst (λ xs. BeginsWholeRequest limits xs request size) spelled whole, ap (drop size) spelled)
spelled-snoc limits bytes (first ∷ requests) rest request size spelled whole =
    (spelled.0, spelled-snoc limits (drop first.1 bytes) requests rest request size spelled.1 whole)

-- the next item is one of the first, where no refusal is among them
first-snoc : (limits : Limits) (items : List Item) (bytes rest : List ℕ) (item : Item) (size : ℕ) (first : AreFirst limits items rest bytes) → first.refusal ≡ None
    → BeginsItem limits rest item size → AreFirst limits (items ++ item ∷ []) (drop size rest) bytes
first-snoc limits items bytes rest (inl request) size first none begins = record {
  requests = first.requests ++ (request, size) ∷ [];
  refusal = None;
  items_are = ap (λ (xs : List Item). xs ++ inl request ∷ []) (first.items_are ∙ ap (items_of first.requests) none) ∙ sym (items-request first.requests request size);
  spelled = spelled-snoc limits bytes first.requests rest request size first.spelled begins;
  refused = tt;
}
first-snoc limits items bytes rest (inr refusal) size first none begins = record {
  requests = first.requests;
  refusal = Some refusal;
  items_are = ap (λ (xs : List Item). xs ++ inr refusal ∷ []) (first.items_are ∙ ap (items_of first.requests) none) ∙ sym (items-refusal first.requests refusal);
  spelled = subst (λ n. SpellsRequests limits bytes first.requests (drop n rest)) (sym begins.1) first.spelled;
  refused = subst (λ n. BeginsRefusal limits (drop n rest) refusal) (sym begins.1) begins.0;
}

-- the next item has its note
pub fitting-snoc : (site : SeenSite) (limits : Limits) (notes : List Note) (bytes : List ℕ) (items : List Item) (rest : List ℕ) (item : Item) (size : ℕ) (note : Note)
    → IsFitting site limits notes bytes items rest → says_last notes ≡ false → BeginsItem limits rest item size → IsNoteFor (item_ask site item) note
    → IsFitting site limits (notes ++ note ∷ []) bytes (items ++ item ∷ []) (drop size rest)
fitting-snoc site limits notes bytes items rest item size note fits goes_on begins noted = record {
  first = first-snoc limits items bytes rest item size fits.first
      (none-refused site fits.first.requests fits.first.refusal notes (subst (λ xs. AreNotesOf site xs notes) fits.first.items_are fits.noted) goes_on) begins;
  noted = noted-snoc site items notes item note fits.noted goes_on noted;
}

-- the next item has its reply
pub replies-snoc : (site : SeenSite) (items : List Item) (notes : List Note) (replies : List ℕ) (item : Item) (note : Note) (response : List ℕ)
    → AreReplies site items notes replies → IsResponse site item note response
    → AreReplies site (items ++ item ∷ []) (notes ++ note ∷ []) (replies ++ (first_part item ++ response))
replies-snoc site [] [] replies item note response are is_response = record {
  response = response;
  is_response = is_response;
  further = [];
  others = refl;
  whole = ap (λ xs. xs ++ (first_part item ++ response)) are
      ∙ sym (append-nil (first_part item ++ response));
}
replies-snoc site [] (first ∷ notes) replies item note response are is_response = absurd are
replies-snoc site (head ∷ items) [] replies item note response are is_response = absurd are
replies-snoc site (head ∷ items) (first ∷ notes) replies item note response are is_response = record {
  response = are.response;
  is_response = are.is_response;
  further = are.further ++ (first_part item ++ response);
  others = replies-snoc site items notes are.further item note response are.others is_response;
  whole = ap (λ xs. xs ++ (first_part item ++ response)) are.whole
      ∙ append_assoc (first_part head ++ are.response) are.further (first_part item ++ response);
}

-- ## Responses

-- a head isn't empty
some-head : (site : SeenSite) (plan : Plan) (note : Note) (date changed : List ℕ) → 0 < length (head_of site plan note date changed)
some-head site plan note date changed = omega arith

-- the head of a refusal isn't empty
some-refusal : (code : Code) (date : List ℕ) → 0 < length (refusal_head code date)
some-refusal code date = omega arith

-- the head of a reply isn't empty
some-reply : (site : SeenSite) (item : Item) (note : Note) (reply : Reply) → IsReplyTo site item note reply → 0 < length reply.head
some-reply site (inl request) note reply is =
    subst (λ xs. 0 < length xs) (sym is.head) (some-head site (plan_for site request) note _ _)
some-reply site (inr refusal) note reply is =
    subst (λ xs. 0 < length xs) (sym is.1.head) (some-refusal is.1.refused_by _)

-- no response is empty
pub some-response : (site : SeenSite) (item : Item) (note : Note) (response : List ℕ) → IsResponse site item note response → 0 < length response
some-response site item note response r =
    omega (arith, ap length r.bytes_are, length-append r.reply.head (body_bytes site r.reply.body), some-reply site item note r.reply r.is_reply)
