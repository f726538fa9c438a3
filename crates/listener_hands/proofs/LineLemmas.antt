-- Queues and seats, in their order, and looks of which the first is another one.
use Rattle.std.proofs.Common.{◌≡◌, ℕ, zero, suc, ◌+◌, List, [], ◌∷◌, ◌++◌, length, reverse, set, Some, slice_get, sym, ap, subst, ◌∙◌, arith}
use Rattle.std.proofs.lemmas.Option.{same_Some}
use Rattle.listener_hands.proofs.OpeningLemmas.{at_first, at_reverse}

-- what the first of a list is replaced by is as all others are
pub first_set : {X : Type 0} (P : X → Type 0) (xs : List X) (y : X) → ((i : ℕ) (x : X) → slice_get xs i ≡ Some x → P x) → P y
    → (i : ℕ) (x : X) → slice_get (set xs 0 y) i ≡ Some x → P x
first_set P [] y all mine i x at = all i x at
first_set P (z ∷ xs) y all mine zero x at = subst P (same_Some y x at) mine
first_set P (z ∷ xs) y all mine (suc i) x at = all (suc i) x at

-- ## Pairs of two lists

pair_last : {Q S : Type 0} (P : Q → S → Type 0) (xs : List Q) (ys : List S) (q : Q) (s : S) → length xs ≡ length ys
    → ((k : ℕ) (x : Q) (y : S) → slice_get xs k ≡ Some x → slice_get ys k ≡ Some y → P x y) → P q s
    → (k : ℕ) (x : Q) (y : S) → slice_get (xs ++ q ∷ []) k ≡ Some x → slice_get (ys ++ s ∷ []) k ≡ Some y → P x y
pair_last P [] [] q s long all mine zero x y at at' =
    subst (λ a. P a y) (same_Some q x at) (subst (P q) (same_Some s y at') mine)
pair_last P [] [] q s long all mine (suc k) x y at at' = absurd (cc)
pair_last P [] (b ∷ ys) q s long all mine k x y at at' = absurd (omega (arith, long))
pair_last P (a ∷ xs) [] q s long all mine k x y at at' = absurd (omega (arith, long))
pair_last P (a ∷ xs) (b ∷ ys) q s long all mine zero x y at at' = all zero x y at at'
pair_last P (a ∷ xs) (b ∷ ys) q s long all mine (suc k) x y at at' =
    pair_last P xs ys q s (omega (arith, long)) (λ j u v here there. all (suc j) u v here there) mine k x y at at'

-- one more pair behind all others is as they are
pub pairs_more : {Q S : Type 0} (P : Q → S → Type 0) (xs more : List Q) (ys more' : List S) (q : Q) (s : S) → more ≡ xs ++ q ∷ [] → more' ≡ ys ++ s ∷ []
    → length xs ≡ length ys → ((k : ℕ) (x : Q) (y : S) → slice_get xs k ≡ Some x → slice_get ys k ≡ Some y → P x y) → P q s
    → (k : ℕ) (x : Q) (y : S) → slice_get more k ≡ Some x → slice_get more' k ≡ Some y → P x y
pairs_more P xs more ys more' q s is is' long all mine k x y at at' =
    pair_last P xs ys q s long all mine k x y (ap (λ l. slice_get l k) (sym is) ∙ at) (ap (λ l. slice_get l k) (sym is') ∙ at')

-- the items of the second list stand the other way round: the last of those that are left belongs to the next of the first list
abbrev pub AreLeft : {Q S : Type 0} (P : Q → S → Type 0) → List Q → List S → Type 0
AreLeft {Q} {S} P xs left =
    (i k : ℕ) (x : Q) (y : S) → i + k + 1 ≡ length xs → slice_get xs k ≡ Some x → slice_get left i ≡ Some y → P x y

pub left_first : {Q S : Type 0} (P : Q → S → Type 0) (xs : List Q) (ys left : List S) → left ≡ reverse ys → length ys ≡ length xs
    → ((k : ℕ) (x : Q) (y : S) → slice_get xs k ≡ Some x → slice_get ys k ≡ Some y → P x y) → AreLeft P xs left
left_first P xs ys left is long all i k x y sum at at' =
    all k x y at (at_reverse ys i k y (ap (λ l. slice_get l i) (sym is) ∙ at') (omega (arith, sum, long)))

pub left_next : {Q S : Type 0} (P : Q → S → Type 0) (xs : List Q) (left rest : List S) (y : S) → left ≡ rest ++ y ∷ [] → AreLeft P xs left → AreLeft P xs rest
left_next P xs left rest y is all i k x z sum at at' =
    all i k x z sum at (ap (λ l. slice_get l i) is ∙ at_first rest (y ∷ []) i z at')
