-- What follows the replies of a connection that keeps no byte of a further request, or whose last reply was sent.
use Rattle.std.proofs.Common.{◌≡◌, ◌==◌, ℕ, Bool, true, false, ◌&&◌, not, List, [], ◌∷◌, length, if◌then◌else◌, refl, sym, ap, subst, ◌∙◌, arith}
use Rattle.std.proofs.lemmas.Bool.{false≢true}
use Rattle.std.proofs.lemmas.Bool.Decides.{nat_tests}
use Rattle.mpm_base.specs.Notes.{says_last}
use Rattle.mpm_base.specs.declared.note.Note.{Note}
use Rattle.http_read.specs.declared.request.Limits.{Limits}
use Rattle.http_read.specs.Head.{IsHeadFront}
use Rattle.http_read.specs.Requests.{WaitsForRequest}
use Rattle.http_core.specs.Code.{continue_text}
use Rattle.conn_state.specs.declared.stage.Stage.{Stage}
use Rattle.conn_state.specs.declared.stage.Stage.TheVariants as stage
use Rattle.conn_state.specs.Replies.{IsInterim}
use Rattle.conn_state.specs.Rest.{StandsAs, is_awaited, is_in_head}
use Rattle.conn_state.specs.Steps.{WaitsIn}
use Rattle.conn_state.specs.Reader.{SeenReader, StandsFor, keeps_none}
use Rattle.conn_state.specs.Follows.{what_follows}
use Rattle.conn_state.proofs.ApartLemmas.{none-front}
use Rattle.conn_state.proofs.ConnLemmas.{FollowsMay}
use Rattle.conn_state.proofs.FreshLemmas.{head-unawaited}

-- ## What the laws say

-- what follows the replies is due where more has to come
abbrev pub FollowsDue : Type 0
FollowsDue = (limits : Limits) (notes : List Note) (unread : List ℕ) (s : Stage) (rest : List ℕ) → StandsAs limits unread s rest
    → WaitsIn limits unread s rest → IsInterim limits notes rest (what_follows notes s)

-- where more has to come, the bytes spell neither a request nor a refusal
abbrev pub WaitsForNext : Type 0
WaitsForNext = (limits : Limits) (unread : List ℕ) (s : Stage) (rest : List ℕ) → WaitsIn limits unread s rest → WaitsForRequest limits rest

-- nothing is kept exactly where no byte stands behind the answered requests
abbrev pub ShowsEmpty : Type 0
ShowsEmpty = (limits : Limits) (unread : List ℕ) (s : Stage) (rest : List ℕ) → StandsAs limits unread s rest
    → (is_in_head s && (length unread == 0)) ≡ (length rest == 0)

-- what the laws say of what a connection keeps
pub record Laws : Type 0 where
  pub may : FollowsMay
  pub due : FollowsDue
  pub waits : WaitsForNext
  pub empty : ShowsEmpty

-- ## Where no byte is kept

-- the first of two tests that both hold
both-first : (a b : Bool) → (a && b) ≡ true → a ≡ true
both-first true b both = refl
both-first false b both = absurd (false≢true both)

-- the second
both-second : (a b : Bool) → (a && b) ≡ true → b ≡ true
both-second true b both = both
both-second false b both = absurd (false≢true both)

-- a list that has no elements by its length
nil-is : (xs : List ℕ) → (length xs == 0) ≡ true → xs ≡ []
nil-is [] is = refl
nil-is (x ∷ xs) is =
    let some : (length (x ∷ xs) == 0) ≡ false = grind (arith, nat_tests) in
    absurd (false≢true (sym some ∙ is))

-- the reader of a head that keeps no byte has more to come
none-waits : (limits : Limits) (unread : List ℕ) (s : Stage) (rest : List ℕ) → StandsAs limits unread s rest → is_in_head s ≡ true → unread ≡ [] → WaitsIn limits unread s rest
none-waits limits unread (stage.Head reader) rest h in_head none =
    let within = h.within in
    let empty = ap length none in
    record {
      front = subst (λ xs. IsHeadFront limits xs) (sym (h.rest_is ∙ none)) (none-front limits);
      looked = omega (arith, within, empty);
    }
none-waits limits unread (stage.Body request reader) rest h in_head none = absurd (false≢true in_head)
none-waits limits unread (stage.Whole request) rest h in_head none = absurd (false≢true in_head)
none-waits limits unread (stage.Refused code expected) rest h in_head none = absurd (false≢true in_head)

-- the same of a reader that keeps none
pub kept-waits : (r : SeenReader) (rest : List ℕ) → StandsFor r rest → keeps_none r ≡ true → WaitsIn r.limits r.unread r.stage rest
kept-waits r rest h none =
    none-waits r.limits r.unread r.stage rest h (both-first (is_in_head r.stage) (length r.unread == 0) none)
    (nil-is r.unread (both-second (is_in_head r.stage) (length r.unread == 0) none))

-- it stands for no byte
pub kept-nil : ShowsEmpty → (r : SeenReader) (rest : List ℕ) → StandsFor r rest → keeps_none r ≡ true → rest ≡ []
kept-nil empty r rest h none = nil-is rest (sym (empty r.limits r.unread r.stage rest h) ∙ none)

-- and what stands for no byte keeps none
pub nil-kept : ShowsEmpty → (r : SeenReader) (rest : List ℕ) → StandsFor r rest → rest ≡ [] → keeps_none r ≡ true
nil-kept empty r rest h nil = empty r.limits r.unread r.stage rest h ∙ ap (λ xs. length xs == 0) nil

-- nothing follows the replies then
pub kept-follows : (notes : List Note) (r : SeenReader) → keeps_none r ≡ true → what_follows notes r.stage ≡ []
kept-follows notes r none =
    ap (λ b. if b && not (says_last notes) then continue_text else []) (head-unawaited r.stage (both-first (is_in_head r.stage) (length r.unread == 0) none))

-- nothing follows a reply that was the last
pub last-follows : (notes : List Note) (s : Stage) → says_last notes ≡ true → what_follows notes s ≡ []
last-follows notes s last = ap (λ b. if is_awaited s && not b then continue_text else []) last ∙ none-told (is_awaited s)
  where
    -- whether or not a client waits
    none-told : (awaited : Bool) → (if awaited && not true then continue_text else []) ≡ []
    none-told true = refl
    none-told false = refl
