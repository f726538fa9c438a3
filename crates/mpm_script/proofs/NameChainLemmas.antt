-- The last places of names, once a name was added.
use Rattle.std.proofs.Common.{◌≡◌, ℕ, ◌+◌, ◌<◌, ◌≤◌, ◌⊎◌, inl, inr, Bool, true, false, nat_lt, List, [], ◌∷◌, ◌++◌, length, get_or, Option, None, Some, ap, subst, sym, refl, ◌∙◌, arith}
use Rattle.std.specs.Prelude.{bytes_eq}
use Rattle.std.specs.Global.{Vec}
use Rattle.std.specs.HashMap as hash
use Rattle.std.specs.HashMap.{HashMap}
use Rattle.std.specs.Map.{lookup, AreApart, IsKeyTest, KeepsOthers}
use Rattle.std.proofs.lemmas.Bool.Decides.{nat_tests}
use Rattle.std.proofs.lemmas.Cmp.{nat_list_eq_equiv}
use Rattle.std.proofs.lemmas.List.{length_push}
use Rattle.std.proofs.Math.ListN.{get_or-append}
use Rattle.std.proofs.Math.Seq.{get_or-append_seam}
use Rattle.std.proofs.lemmas.Slice.Eq.{bytes_eq-Decides}
use Rattle.mpm_script.specs.NameChains.{IsLastBelow}
use Rattle.mpm_script.specs.NameChainsInside.{AreChained}

-- a number below the next one
either : (k n : ℕ) → k < n + 1 → (k < n) ⊎ (k ≡ n)
either k n l = go (nat_lt k n) refl
  where
    go : (below : Bool) → nat_lt k n ≡ below → (k < n) ⊎ (k ≡ n)
    go true is = inl (grind (arith, nat_tests))
    go false is = inr (grind (arith, nat_tests))

-- behind the bound anything may stand
pub last-more : (name : List ℕ) (bound : ℕ) (names : List (List ℕ)) (x : List ℕ) (place : Option ℕ) → bound ≤ length names → IsLastBelow name bound names place
    → IsLastBelow name bound (names ++ x ∷ []) place
last-more name bound names x None l last = λ k m. rw (get_or-append names (x ∷ []) [] k (omega (arith, l, m))) (last k m)
last-more name bound names x (Some place) l last = (
  last.0,
  rw (get_or-append names (x ∷ []) [] place (omega (arith, l, last.0))) last.1,
  λ k from to. rw (get_or-append names (x ∷ []) [] k (omega (arith, l, to))) (last.2 k from to),
)

-- another name was added
last-other : (name : List ℕ) (names : List (List ℕ)) (x : List ℕ) (place : Option ℕ) → bytes_eq name x ≡ false → IsLastBelow name (length names) names place
    → IsLastBelow name (length (names ++ x ∷ [])) (names ++ x ∷ []) place
last-other name names x place other last = go place (last-more name (length names) names x place (omega arith) last)
  where
    differs : (k : ℕ) → k ≡ length names → bytes_eq name (get_or (names ++ x ∷ []) k []) ≡ false
    differs k is = rw (is, get_or-append_seam names x [] []) other

    beyond : (k : ℕ) → k < length (names ++ x ∷ []) → (k < length names) ⊎ (k ≡ length names)
    beyond k m = either k (length names) (omega (arith, m, length_push names x))

    go : (place : Option ℕ) → IsLastBelow name (length names) (names ++ x ∷ []) place → IsLastBelow name (length (names ++ x ∷ [])) (names ++ x ∷ []) place
    go None none = λ k m. elim (beyond k m) [ inl l ↦ none k l | inr is ↦ differs k is ]
    go (Some place) some = (
      omega (arith, some.0, length_push names x),
      some.1,
      λ k from to. elim (beyond k to) [ inl l ↦ some.2 k from l | inr is ↦ differs k is ],
    )

-- the name itself was added
last-own : (names : List (List ℕ)) (x : List ℕ) → IsLastBelow x (length (names ++ x ∷ [])) (names ++ x ∷ []) (Some (length names))
last-own names x = (
  omega (arith, length_push names x),
  rw (get_or-append_seam names x [] []) ((bytes_eq-Decides x x).1 refl),
  λ k from to. absurd (omega (arith, from, to, length_push names x)),
)

-- what a map finds where a name is put into it
apart : (name other key : List ℕ) → bytes_eq name other ≡ false → bytes_eq name key ≡ true → bytes_eq other key ≡ false
apart name other key n y = nat_list_eq_equiv.symm other key ∙ sym (nat_list_eq_equiv.congr name key other y) ∙ n

others-kept : {K X : Type 0} (eq : K → K → Bool) (test : K → Bool) (old new : List (K × X)) → KeepsOthers eq test old new → (other : K → Bool) → IsKeyTest eq other
    → AreApart test other → lookup other new ≡ lookup other old
unfolding KeepsOthers
others-kept eq test old new h = h

found-more : {S : Type 0} (old new : HashMap (Vec ℕ) ℕ S) (names : List (List ℕ)) (name : List ℕ)
    → ((other : List ℕ) → IsLastBelow other (length names) names (hash.get_by (λ key. bytes_eq other key.items) old))
    → hash.UpdatesBy (λ (x y : Vec ℕ). bytes_eq x.items y.items) (λ (key : Vec ℕ). bytes_eq name key.items) old new (Some (length names))
    → (other : List ℕ) → IsLastBelow other (length (names ++ name ∷ [])) (names ++ name ∷ []) (hash.get_by (λ key. bytes_eq other key.items) new)
found-more old new names name found updates other = go (bytes_eq name other) refl
  where
    go : (same : Bool) → bytes_eq name other ≡ same → IsLastBelow other (length (names ++ name ∷ [])) (names ++ name ∷ []) (hash.get_by (λ key. bytes_eq other key.items) new)
    go true is =
        let one : name ≡ other = (bytes_eq-Decides name other).0 is in
        subst (λ n. IsLastBelow n (length (names ++ name ∷ [])) (names ++ name ∷ []) (hash.get_by (λ key. bytes_eq n key.items) new)) one
        (subst (IsLastBelow name (length (names ++ name ∷ [])) (names ++ name ∷ [])) (sym updates.1) (last-own names name))
    go false is =
        let kept : hash.get_by (λ key. bytes_eq other key.items) new ≡ hash.get_by (λ key. bytes_eq other key.items) old =
        others-kept _ _ _ _ updates.3 (λ key. bytes_eq other key.items) (λ x y. nat_list_eq_equiv.congr other x.items y.items) (λ key. apart name other key.items is) in
        subst (IsLastBelow other (length (names ++ name ∷ [])) (names ++ name ∷ [])) (sym kept)
        (last-other other names name _ (nat_list_eq_equiv.symm other name ∙ is) (found other))

-- a name was added
pub chained-more : {S : Type 0} (old new : HashMap (Vec ℕ) ℕ S) (earlier : List (Option ℕ)) (names : List (List ℕ)) (name : List ℕ) (key : Vec ℕ) (n : ℕ) (place : Option ℕ)
    → key.items ≡ name → n ≡ length names → AreChained old earlier names → place ≡ hash.get_by (λ (k : Vec ℕ). bytes_eq key.items k.items) old
    → hash.UpdatesBy (λ (x y : Vec ℕ). bytes_eq x.items y.items) (λ (k : Vec ℕ). bytes_eq key.items k.items) old new (Some n)
    → AreChained new (earlier ++ place ∷ []) (names ++ name ∷ [])
chained-more old new earlier names name key n place is size was before updates = record {
  found = found-more old new names name was.found
      (subst (λ m. hash.UpdatesBy (λ (x y : Vec ℕ). bytes_eq x.items y.items) (λ (k : Vec ℕ). bytes_eq name k.items) old new (Some m)) size
      (subst (λ text. hash.UpdatesBy (λ (x y : Vec ℕ). bytes_eq x.items y.items) (λ (k : Vec ℕ). bytes_eq text k.items) old new (Some n)) is updates));
  each = omega (arith, length_push earlier place, length_push names name, was.each);
  chained = λ k l. elim (either k (length names) (omega (arith, l, length_push names name))) [
    | inl m ↦
        rw (get_or-append names (name ∷ []) [] k m, get_or-append earlier (place ∷ []) None k (omega (arith, m, was.each)))
        (last-more (get_or names k []) k names name (get_or earlier k None) (omega (arith, m)) (was.chained k m))
    | inr here ↦
        let seam : get_or (earlier ++ place ∷ []) k None ≡ place = rw (here, ← was.each) (get_or-append_seam earlier place [] None) in
        let own : get_or (names ++ name ∷ []) k [] ≡ name = rw here (get_or-append_seam names name [] []) in
        let first : place ≡ hash.get_by (λ (k : Vec ℕ). bytes_eq name k.items) old = before ∙ ap (λ (text : List ℕ). hash.get_by (λ (k : Vec ℕ). bytes_eq text k.items) old) is in
        rw (seam, own, here) (last-more name (length names) names name place (omega arith) (rw first (was.found name)))
  ];
}
