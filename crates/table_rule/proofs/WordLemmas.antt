-- Lists of words and of views, and one change in them.
use Rattle.std.proofs.Common.{◌≡◌, ◌≢◌, ◌⊎◌, ℕ, zero, suc, ◌+◌, ◌<◌, List, [], ◌∷◌, ◌++◌, length, set, Option, Some, None, inl, inr, refl, sym, ap, ◌∙◌, subst, ⊎_elim, arith}
use Rattle.std.specs.Prelude.{slice_index}
use native.Mathlib.Decide.{ℕ_discrete}
use mathlib.Core.Option as m
use lib.ListN.{get_elem?}
use Rattle.atomic_table.proofs.Lists.{set_here, set_else}
use Rattle.table_rule.specs.declared.view.View.{View}

-- the other words stay
pub word_else : (ws : List ℕ) (i j x : ℕ) → j ≢ i → slice_index (set ws i x) j ≡ slice_index ws j
word_else [] i j x ne = refl
word_else (y ∷ ys) zero zero x ne = absurd (ne refl)
word_else (y ∷ ys) zero (suc j) x ne = refl
word_else (y ∷ ys) (suc i) zero x ne = refl
word_else (y ∷ ys) (suc i) (suc j) x ne = word_else ys i j x (λ e. ne (ap suc e))

-- the word is the new one
pub word_here : (ws : List ℕ) (i x : ℕ) → i < length ws → slice_index (set ws i x) i ≡ x
word_here [] i x lt = absurd (omega arith)
word_here (y ∷ ys) zero x lt = refl
word_here (y ∷ ys) (suc i) x lt = word_here ys i x (omega arith)

-- a word that becomes what it was changes nothing
pub word_again : (ws : List ℕ) (i : ℕ) → set ws i (slice_index ws i) ≡ ws
word_again [] i = refl
word_again (y ∷ ys) zero = refl
word_again (y ∷ ys) (suc i) = ap (λ l. y ∷ l) (word_again ys i)

-- a change keeps the length
pub set_length : {X : Type 0} (xs : List X) (i : ℕ) (x : X) → length (set xs i x) ≡ length xs
set_length [] i x = refl
set_length (y ∷ ys) zero x = refl
set_length (y ∷ ys) (suc i) x = ap suc (set_length ys i x)

-- a list with one item more
pub snoc_length : {X : Type 0} (xs : List X) (x : X) → length (xs ++ x ∷ []) ≡ length xs + 1
snoc_length [] x = omega arith
snoc_length (y ∷ ys) x = let s = snoc_length ys x in omega arith

-- a view stands below the length
pub at_below : (views : List View) (id : ℕ) (v : View) → get_elem? views id ≡ m.some v → id < length views
at_below [] id v at = absurd (m.some-ne-none v (sym at))
at_below (x ∷ xs) zero v at = omega arith
at_below (x ∷ xs) (suc id) v at = let s = at_below xs id v at in omega arith

-- below the length a view stands
pub below_at : (views : List View) (id : ℕ) → id < length views → (v : View) × (get_elem? views id ≡ m.some v)
below_at [] id lt = absurd (omega arith)
below_at (x ∷ xs) zero lt = (x, refl)
below_at (x ∷ xs) (suc id) lt = below_at xs id (omega arith)

-- in a list with one view more, each is an old one or that one
pub at_snoc_or : (l : List View) (a b : View) (j : ℕ) → get_elem? (l ++ a ∷ []) j ≡ m.some b → (get_elem? l j ≡ m.some b) ⊎ ((j ≡ length l) × (a ≡ b))
at_snoc_or [] a b zero e = inr (refl, m.some-injective a b e)
at_snoc_or [] a b (suc j) e = absurd (m.some-ne-none b (sym e))
at_snoc_or (x ∷ xs) a b zero e = inl e
at_snoc_or (x ∷ xs) a b (suc j) e = ⊎_elim (λ p. inl p) (λ (p : (j ≡ length xs) × (a ≡ b)). inr (ap suc p.0, p.1)) (at_snoc_or xs a b j e)

-- two views at one place are one
pub at_same : (views : List View) (i j : ℕ) (a b : View) → get_elem? views i ≡ m.some a → get_elem? views j ≡ m.some b → i ≡ j → a ≡ b
at_same views i j a b ea eb same = m.some-injective a b (sym ea ∙ subst (λ k. get_elem? views k ≡ m.some b) (sym same) eb)

-- the first view, after the view of a place was changed
pub record FirstAfter (views : List View) (id : ℕ) (v w f : View) : Type 0 where
  pub view : View
  pub at : get_elem? (set views id w) 0 ≡ m.some view
  pub which : ((id ≡ 0) × (view ≡ w) × (f ≡ v)) ⊎ ((id ≢ 0) × (view ≡ f))

pub first_after : (views : List View) (id : ℕ) (v w f : View) → get_elem? views id ≡ m.some v → get_elem? views 0 ≡ m.some f → FirstAfter views id v w f
first_after views id v w f at first = elim (ℕ_discrete id 0) [
  | yes z ↦ record {
    view = w;
    at = subst (λ j. get_elem? (set views id w) j ≡ m.some w) z (set_here views id w (at_below views id v at));
    which = inl (z, refl, at_same views 0 id f v first at (sym z));
  }
  | no ne ↦ record { view = f; at = set_else views id 0 w (λ e. ne (sym e)) ∙ first; which = inr (ne, refl) }
]

-- what the change leaves of the first view
pub first_same : {X : Type 0} (g : View → X) (views : List View) (id : ℕ) (v w f : View) (a : FirstAfter views id v w f)
    → (id ≡ 0 → g w ≡ g v) → g a.view ≡ g f
first_same g views id v w f a same = ⊎_elim
    (λ (y : (id ≡ 0) × (a.view ≡ w) × (f ≡ v)). ap g y.1 ∙ same y.0 ∙ ap g (sym y.2))
    (λ (n : (id ≢ 0) × (a.view ≡ f)). ap g n.1)
    a.which

-- a change elsewhere leaves it
pub first_other : {X : Type 0} (g : View → X) (views : List View) (id : ℕ) (v w f : View) (a : FirstAfter views id v w f)
    → id ≢ 0 → g a.view ≡ g f
first_other g views id v w f a other = first_same g views id v w f a (λ z. absurd (other z))

-- nothing is there where nothing may be
pub none_is : {X : Type 0} (o : Option X) → ((x : X) → o ≡ Some x → ⊥) → o ≡ None
none_is None never = refl
none_is (Some x) never = absurd (never x refl)
