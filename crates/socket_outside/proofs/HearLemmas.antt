-- Bytes that a read of a control connection gives, behind those that had come.
use Rattle.std.proofs.Common.{◌≡◌, ℕ, ◌+◌, ◌≤◌, true, ◌&&◌, List, [], ◌∷◌, ◌++◌, length, take, Option, None, Some, refl, sym, ap, ap₂, ◌∙◌, append_assoc, append-nil, length-take-le, take-take, arith}
use Rattle.std.proofs.KnownBytes.{Consumes-kept, Consumes-nil, Consumes-trans}
use Rattle.std.proofs.lemmas.List.Folds.{list_all-append}
use Rattle.std.proofs.Math.Seq.{take-append-add}
use Rattle.std.proofs.lemmas.Slice.{take-put_mid, take-put_mid_below}
use Rattle.std.specs.Io.KnownBytes.{Consumes, Keeps}
use Rattle.mpm_base.specs.declared.link.Got.{Got}
use Rattle.socket_outside.specs.CommandLines.{AnswersMore, HearsOn, gave_bytes}
use Rattle.socket_outside.specs.CommandLinesInside.{HasHeard, HearsOnce}
use borrow.Rule.Slice.PartMut.{put_mid}

take_front : (front rest : List ℕ) (filled n : ℕ) → length front ≡ filled → take (filled + n) (front ++ rest) ≡ front ++ take n rest
take_front front rest filled n e = rw (← e) (take-append-add front rest n)

-- of a part that was written behind the first bytes some count
take_written : (filled k n : ℕ) (bytes part : List ℕ) → filled ≤ length bytes → n ≤ length part → take (filled + n) (put_mid filled k bytes part) ≡ take filled bytes ++ take n part
take_written filled k n bytes part within few =
    sym (take-take (filled + n) (filled + length part) (put_mid filled k bytes part) (omega arith))
    ∙ ap (take (filled + n)) (take-put_mid filled k bytes part (filled + length part) refl within)
    ∙ take_front (take filled bytes) part filled n (length-take-le filled bytes within)

-- a read gave some bytes
pub hears_some : (filled k n : ℕ) (bytes part now : List ℕ) (left left' : Option (List ℕ)) → filled ≤ length bytes → n ≤ length part
    → now ≡ take filled bytes → Consumes left left' (take n part) → HearsOn now (take (filled + n) (put_mid filled k bytes part)) left left'
hears_some filled k n bytes part now left left' within few front took =
    (take n part, take_written filled k n bytes part within few ∙ ap (λ l. l ++ take n part) (sym front), took)

-- a read gave none
pub hears_none : (filled k : ℕ) (bytes part now : List ℕ) (left left' : Option (List ℕ)) → filled ≤ length bytes
    → now ≡ take filled bytes → Keeps left left' → HearsOn now (take filled (put_mid filled k bytes part)) left left'
hears_none filled k bytes part now left left' within front kept = (
  [],
  take-put_mid_below filled k bytes part filled (omega arith) within ∙ sym front ∙ sym (append-nil now),
  Consumes-kept left left left' [] (Consumes-nil left) kept,
)

-- ## Several reads

pub hears_further : (a b c : List ℕ) (l m n : Option (List ℕ)) → HearsOn a b l m → HearsOn b c m n → HearsOn a c l n
hears_further a b c l m n h k =
    (h.0 ++ k.0, k.1 ∙ ap (λ (x : List ℕ). x ++ k.0) h.1 ∙ append_assoc a h.0 k.0, Consumes-trans l m n h.0 k.0 h.2 k.2)

answers_more : (a b c : Option (List Got)) (xs ys : List Got) → AnswersMore a b xs → AnswersMore b c ys → AnswersMore a c (xs ++ ys)
answers_more None b c xs ys h k = tt
answers_more (Some x) None c xs ys h k = absurd h
answers_more (Some x) (Some y) None xs ys h k = absurd k
answers_more (Some x) (Some y) (Some z) xs ys h k = k ∙ ap (λ (l : List Got). l ++ ys) h ∙ append_assoc x xs ys

pub heard_more : (a b c : Option (List Got)) (before bytes : List ℕ) → HasHeard a b before → HearsOnce b c before bytes None → HasHeard a c bytes
heard_more a b c before bytes h k = record {
  earlier = h.earlier ++ k.last ∷ [];
  answers = answers_more a b c h.earlier (k.last ∷ []) h.answers k.answers;
  gave = list_all-append gave_bytes h.earlier (k.last ∷ []) ∙ ap₂ (λ x y. x && (y && true)) h.gave k.decides.0;
  asks = λ some. k.decides.1;
}
