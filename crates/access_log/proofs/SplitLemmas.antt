-- What stands before and behind the first byte that passes a test.
use Rattle.std.proofs.Common.{◌≡◌, ℕ, ◌+◌, Bool, true, false, not, List, [], ◌∷◌, ◌++◌, length, take, drop, refl, ap, ◌∙◌, arith}
use Rattle.std.specs.List.{All, list_all, before_first, after_first, position_or_len}
use Rattle.std.proofs.lemmas.List.{take_at}
use Rattle.std.proofs.lemmas.List.Elements.{All-nil, All-cons, All-append, All-head, All-tail, All-weaker}
use Rattle.std.proofs.lemmas.List.Sums.{AllPass-from_list_all}
use Rattle.std.proofs.Math.Seq.{drop-append-add}

-- no byte of the text passes
pub record HasNone (p : ℕ → Bool) (text : List ℕ) : Type 0 where
  pub each : All (λ b. p b ≡ false) text

pub none_both : {p : ℕ → Bool} {xs ys : List ℕ} → HasNone p xs → HasNone p ys → HasNone p (xs ++ ys)
none_both {p} {xs} {ys} h k = record { each = All-append (λ b. p b ≡ false) xs ys h.each k.each }

pub none_more : (p : ℕ → Bool) (b : ℕ) (text : List ℕ) → p b ≡ false → HasNone p text → HasNone p (b ∷ text)
none_more p b text h more = record { each = All-cons (λ b. p b ≡ false) b text h more.each }

pub none_empty : (p : ℕ → Bool) → HasNone p []
none_empty p = record { each = All-nil (λ b. p b ≡ false) }

from_not : (b : Bool) → not b ≡ true → b ≡ false
from_not true h = cc
from_not false h = refl

pub none_tested : (p : ℕ → Bool) (text : List ℕ) → list_all (λ b. not (p b)) text ≡ true → HasNone p text
none_tested p text h =
    record { each = All-weaker (λ b. not (p b) ≡ true) (λ b. p b ≡ false) (λ b. from_not (p b)) text (AllPass-from_list_all (λ b. not (p b)) text h) }

pub none_of : (p q : ℕ → Bool) (text : List ℕ) → ((b : ℕ) → q b ≡ true → p b ≡ false) → All (λ b. q b ≡ true) text → HasNone p text
none_of p q text h all = record { each = All-weaker (λ b. q b ≡ true) (λ b. p b ≡ false) h text all }

pub place_at : (p : ℕ → Bool) (xs : List ℕ) (y : ℕ) (ys : List ℕ) → HasNone p xs → p y ≡ true → position_or_len p (xs ++ y ∷ ys) ≡ length xs
place_at p [] y ys h k = rw k refl
place_at p (x ∷ xs) y ys h k =
    let here : p x ≡ false = All-head (λ x. p x ≡ false) x xs h.each in
    let there = place_at p xs y ys (record { each = All-tail (λ x. p x ≡ false) x xs h.each }) k in
    rw (here, there) (omega arith)

pub before_at : (p : ℕ → Bool) (xs : List ℕ) (y : ℕ) (ys : List ℕ) → HasNone p xs → p y ≡ true → before_first p (xs ++ y ∷ ys) ≡ xs
before_at p xs y ys h k = ap (λ n. take n (xs ++ y ∷ ys)) (place_at p xs y ys h k) ∙ take_at xs (y ∷ ys) (length xs) refl

pub after_at : (p : ℕ → Bool) (xs : List ℕ) (y : ℕ) (ys : List ℕ) → HasNone p xs → p y ≡ true → after_first p (xs ++ y ∷ ys) ≡ ys
after_at p xs y ys h k = ap (λ n. drop (n + 1) (xs ++ y ∷ ys)) (place_at p xs y ys h k) ∙ drop-append-add xs (y ∷ ys) 1
