-- What follows the replies.
use Rattle.std.proofs.Common.{◌≡◌, ◌⊎◌, ℕ, Bool, true, false, ◌&&◌, not, List, [], Some, if◌then◌else◌, inl, inr, refl, sym, ap, ◌∙◌}
use Rattle.std.proofs.lemmas.Bool.{false≢true}
use Rattle.mpm_base.specs.declared.note.Note.{Note}
use Rattle.mpm_base.specs.Notes.{says_last}
use Rattle.http_read.specs.declared.request.Limits.{Limits}
use Rattle.http_core.specs.Code.{continue_text}
use Rattle.conn_state.specs.declared.stage.Stage.{Stage}
use Rattle.conn_state.specs.declared.stage.Stage.TheVariants as stage
use Rattle.conn_state.specs.Items.{Item}
use Rattle.conn_state.specs.Replies.{Expects, IsInterim, MayFollow, first_part}
use Rattle.conn_state.specs.Rest.{StandsAs, is_awaited}
use Rattle.conn_state.specs.Steps.{WaitsIn}
use Rattle.conn_state.specs.Reader.{item_kept}
use Rattle.conn_state.specs.Follows.{what_follows}

-- the bytes by two tests
abbrev pub tells : Bool → Bool → List ℕ
tells awaited last = if awaited && not last then continue_text else []

-- it may follow
may-tell : (limits : Limits) (notes : List Note) (rest : List ℕ) (awaited last : Bool) → (awaited ≡ true → Expects limits rest) → says_last notes ≡ last
    → MayFollow limits notes rest (tells awaited last)
may-tell limits notes rest false last only says = inl refl
may-tell limits notes rest true true only says = inl refl
may-tell limits notes rest true false only says = inr (refl, says, only refl)

-- what follows the replies may follow them
pub follows-may : ((limits : Limits) (unread : List ℕ) (s : Stage) (rest : List ℕ) → StandsAs limits unread s rest → is_awaited s ≡ true → Expects limits rest)
    → (limits : Limits) (notes : List Note) (unread : List ℕ) (s : Stage) (rest : List ℕ) → StandsAs limits unread s rest → MayFollow limits notes rest (what_follows notes s)
follows-may only limits notes unread s rest h = may-tell limits notes rest (is_awaited s) (says_last notes) (only limits unread s rest h) refl

-- it is due
due-tells : (limits : Limits) (notes : List Note) (rest : List ℕ) (awaited last : Bool) → (awaited ≡ true → Expects limits rest) → (Expects limits rest → awaited ≡ true)
    → says_last notes ≡ last → IsInterim limits notes rest (tells awaited last)
due-tells limits notes rest true true only found says = record {
  expected = λ goes_on e. absurd (false≢true (sym goes_on ∙ says));
  unexpected = λ u. refl;
}
due-tells limits notes rest true false only found says = record {
  expected = λ goes_on e. refl;
  unexpected = λ u. absurd (not-both u);
}
  where
    -- the client waits, and no reply was the last
    not-both : (¬ (Expects limits rest) ⊎ (says_last notes ≡ true)) → ⊥
    not-both (inl none) = none (only refl)
    not-both (inr last) = false≢true (sym says ∙ last)
due-tells limits notes rest false last only found says = record {
  expected = λ goes_on e. absurd (false≢true (found e));
  unexpected = λ u. refl;
}

-- where more has to come, what follows the replies is due
pub follows-due : ((limits : Limits) (unread : List ℕ) (s : Stage) (rest : List ℕ) → StandsAs limits unread s rest → is_awaited s ≡ true → Expects limits rest)
    → ((limits : Limits) (unread : List ℕ) (s : Stage) (rest : List ℕ) → WaitsIn limits unread s rest → Expects limits rest → is_awaited s ≡ true)
    → (limits : Limits) (notes : List Note) (unread : List ℕ) (s : Stage) (rest : List ℕ) → StandsAs limits unread s rest → WaitsIn limits unread s rest
    → IsInterim limits notes rest (what_follows notes s)
follows-due only found limits notes unread s rest h waits =
    due-tells limits notes rest (is_awaited s) (says_last notes) (only limits unread s rest h) (found limits unread s rest waits) refl

-- where no reply was the last
open-tells : (awaited last : Bool) → last ≡ false → tells awaited last ≡ (if awaited then continue_text else [])
open-tells true true goes_on = absurd (false≢true (sym goes_on))
open-tells true false goes_on = refl
open-tells false last goes_on = refl

-- one item is there
pub some-is : (item other : Item) → Some item ≡ Some other → item ≡ other
some-is item other e = cc

-- what is sent before the response to an item that was read
first-kept : (s : Stage) (item : Item) → item_kept s ≡ Some item → (if is_awaited s then continue_text else []) ≡ first_part item
first-kept (stage.Head reader) item is = absurd (cc)
first-kept (stage.Body request reader) item is = absurd (cc)
first-kept (stage.Whole request) item is = ap first_part (some-is (inl request) item is)
first-kept (stage.Refused code expected) item is = ap first_part (some-is (inr (record { code = code; expected = expected })) item is)

-- what follows the replies is sent before the response to an item that was read
pub follows-first : (notes : List Note) (s : Stage) (item : Item) → item_kept s ≡ Some item → says_last notes ≡ false → what_follows notes s ≡ first_part item
follows-first notes s item kept goes_on = open-tells (is_awaited s) (says_last notes) goes_on ∙ first-kept s item kept
