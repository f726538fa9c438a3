-- What a connection that nothing disturbed was answered.
use Rattle.std.proofs.Common.{◌≡◌, inl, inr, ◌<◌, ℕ, suc, List, [], ◌∷◌, length, Option, None, Some, IfSome, refl, sym, ap, subst, ◌∙◌, append-nil, arith}
use Rattle.mpm_base.specs.Link.{LinkTold}
use Rattle.mpm_base.specs.declared.conn.Cause.{Cause}
use Rattle.mpm_base.specs.declared.conn.Cause.TheVariants as cause
use Rattle.mpm_base.specs.declared.note.Note.{Note}
use Rattle.http_read.specs.declared.request.Limits.{Limits}
use Rattle.http_read.specs.RequestParts.{RequestParts}
use Rattle.http_read.specs.Requests.{BeginsRefusal, ReadRefusal, SpellsRequests, WaitsForRequest}
use Rattle.file_table.specs.Site.{SeenSite}
use Rattle.conn_state.specs.Answered.{HasAll, HasAnswered, IsEnded, LicensesCause, SeenEnded, SentFor, SentReplies, SentWhole}
use Rattle.conn_state.specs.Items.{BeginsItem, Item, items_of}
use Rattle.conn_state.specs.Replies.{AreNotesOf}
use Rattle.board.specs.Board.{AreEnded}
use Rattle.run_laws.specs.Undisturbed.{AnswersEachRequest, AreServedWhole, IsAnsweredWhole, IsServedCause, IsServedWhole, NoneFailed}
use Rattle.run_laws.proofs.CauseLemmas.{Each}

-- ## Causes

-- a cause that is none of these
served-cause : (c : Cause) → (c ≡ cause.KeepAliveLate → ⊥) → (c ≡ cause.ReadLate → ⊥) → (c ≡ cause.WriteLate → ⊥) → (c ≡ cause.LinkFailed → ⊥)
    → (c ≡ cause.Stopped → ⊥) → (c ≡ cause.NoMemory → ⊥) → IsServedCause c
served-cause cause.ClientDone keep read write failed stopped memory = inl refl
served-cause cause.LastSent keep read write failed stopped memory = inr (inl refl)
served-cause cause.KeepAliveLate keep read write failed stopped memory = absurd (keep refl)
served-cause cause.ReadLate keep read write failed stopped memory = absurd (read refl)
served-cause cause.WriteLate keep read write failed stopped memory = absurd (write refl)
served-cause cause.Retiring keep read write failed stopped memory = inr (inr refl)
served-cause cause.LinkFailed keep read write failed stopped memory = absurd (failed refl)
served-cause cause.Stopped keep read write failed stopped memory = absurd (stopped refl)
served-cause cause.NoMemory keep read write failed stopped memory = absurd (memory refl)

-- a link of which no call failed is no cause
unfailed : (e : SeenEnded) → IsEnded e → e.counts.faults ≡ 0 → e.cause ≡ cause.LinkFailed → ⊥
unfailed e ended none is =
    let some : 0 < e.counts.faults = subst (λ (c : Cause). LicensesCause c e.counts) is ended.licensed.by_cause in
    absurd (omega (arith, some, none))

-- ## Requests

-- the law: bytes that begin with an item don't wait for more
abbrev pub ItemsWait : Type 0
ItemsWait =
    (limits : Limits) (bytes : List ℕ) (item : Item) (size : ℕ) → BeginsItem limits bytes item size → WaitsForRequest limits bytes → ⊥

-- bytes that wait for more are no refusal
none-refused : ItemsWait → (limits : Limits) (rest : List ℕ) (refusal : Option ReadRefusal) → IfSome refusal (BeginsRefusal limits rest)
    → WaitsForRequest limits rest → refusal ≡ None
none-refused law limits rest None begins waits = refl
none-refused law limits rest (Some refusal) begins waits = absurd (law limits rest (inr refusal) 0 (begins, refl) waits)

-- so many items as requests
items-many : (requests : List (RequestParts × ℕ)) → length (items_of requests None) ≡ length requests
items-many [] = refl
items-many (request ∷ requests) = ap suc (items-many requests)

-- so many notes as items
notes-many : (site : SeenSite) (items : List Item) (notes : List Note) → AreNotesOf site items notes → length notes ≡ length items
notes-many site [] [] are = refl
notes-many site [] (note ∷ notes) are = absurd are
notes-many site (item ∷ items) [] are = absurd are
notes-many site (item ∷ items) (note ∷ notes) are = ap suc (notes-many site items notes are.2)

-- ## A client that had done

module _ (law : ItemsWait) (e : SeenEnded) (t : LinkTold) (a : HasAnswered e.cause e.site e.limits e.notes t) where
  many : length e.notes ≡ length a.items
  many = notes-many e.site a.items e.notes a.fitting.noted

  -- each of its requests has its response
  each-request : e.cause ≡ cause.ClientDone → SentWhole e.limits e.notes a.rest a.replies a.interim t → AnswersEachRequest e t
  each-request done sent =
      let all : HasAll t = a.received done in
      let first = a.fitting.first in
      let none = none-refused law e.limits a.rest first.refusal first.refused sent.none_whole in
      record {
        came = all.came;
        requests = first.requests;
        rest = a.rest;
        all = record {
          spelled = subst (λ (bytes : List ℕ). SpellsRequests e.limits bytes first.requests a.rest) (sym all.none_dropped) first.spelled;
          left = sent.none_whole;
        };
        one_each =
            many ∙ ap length first.items_are
            ∙ ap (λ (refusal : Option ReadRefusal). length (items_of first.requests refusal)) none
            ∙ items-many first.requests;
      }

  -- what was sent, for each of these causes
  whole-for : IsServedCause e.cause → IsAnsweredWhole e t
  whole-for (inl done) =
      let sent : SentWhole e.limits e.notes a.rest a.replies a.interim t =
      subst (λ (c : Cause). SentFor c e.limits e.notes a.rest a.replies a.interim t) done a.sent in
      record {
        items = a.items;
        rest = a.rest;
        first = a.fitting.first;
        noted = a.fitting.noted;
        one_each = many;
        replies = a.replies;
        are_replies = a.are_replies;
        interim = a.interim;
        all_sent = sent.all_sent;
        done = λ is. (each-request done sent, sent.due);
        last = λ is. absurd (cc (done, is));
        waited = λ is. absurd (cc (done, is));
      }
  whole-for (inr (inl last)) =
      let sent = subst (λ (c : Cause). SentFor c e.limits e.notes a.rest a.replies a.interim t) last a.sent in
      record {
        items = a.items;
        rest = a.rest;
        first = a.fitting.first;
        noted = a.fitting.noted;
        one_each = many;
        replies = a.replies;
        are_replies = a.are_replies;
        interim = [];
        all_sent = sent.0 ∙ sym (append-nil a.replies);
        done = λ is. absurd (cc (last, is));
        last = λ is. (sent.1, refl);
        waited = λ is. absurd (cc (last, is));
      }
  whole-for (inr (inr retired)) =
      let sent : SentReplies a.rest a.replies t =
      subst (λ (c : Cause). SentFor c e.limits e.notes a.rest a.replies a.interim t) retired a.sent in
      record {
        items = a.items;
        rest = a.rest;
        first = a.fitting.first;
        noted = a.fitting.noted;
        one_each = many;
        replies = a.replies;
        are_replies = a.are_replies;
        interim = [];
        all_sent = sent.all_sent ∙ sym (append-nil a.replies);
        done = λ is. absurd (cc (retired, is));
        last = λ is. absurd (cc (retired, is));
        waited = λ is. (sent.none_left, refl);
      }

-- ## All connections

-- what holds where a link tells
some-map : {X : Type 0} {P Q : X → Type 0} (o : Option X) → IfSome o P → ((x : X) → P x → Q x) → IfSome o Q
some-map None holds means = tt
some-map (Some x) holds means = means x holds

-- a connection that ended for none of these was served whole
served-whole : ItemsWait → (e : SeenEnded) → IsEnded e → IsServedCause e.cause → IsServedWhole e
served-whole law e ended why = record {
  cause = why;
  answered = some-map e.told ended.answered (λ t answered. whole-for law e t answered.answers why);
}

-- so were all of which that holds
pub all-served : ItemsWait → (ended : List SeenEnded) → AreEnded ended → Each (λ e. e.cause ≡ cause.KeepAliveLate → ⊥) ended
    → Each (λ e. e.cause ≡ cause.ReadLate → ⊥) ended → Each (λ e. e.cause ≡ cause.WriteLate → ⊥) ended
    → Each (λ e. e.cause ≡ cause.Stopped → ⊥) ended → Each (λ e. e.cause ≡ cause.NoMemory → ⊥) ended → NoneFailed ended → AreServedWhole ended
all-served law [] are keep read write stopped memory none = tt
all-served law (e ∷ ended) are keep read write stopped memory none = (
  served-whole law e are.0 (served-cause e.cause keep.0 read.0 write.0 (unfailed e are.0 none.0) stopped.0 memory.0),
  all-served law ended are.1 keep.1 read.1 write.1 stopped.1 memory.1 none.1,
)
