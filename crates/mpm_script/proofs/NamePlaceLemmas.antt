-- The places of names, and what a map finds once a name was added.
use Rattle.std.proofs.Common.{◌≡◌, ℕ, Bool, true, false, cond, List, [], ◌∷◌, ◌++◌, length, map, Option, None, Some, get_or, refl, sym, ap, subst, ◌∙◌, arith}
use Rattle.std.specs.Prelude.{not, bytes_eq, is_some, IfNone, IfSome}
use Rattle.std.specs.Global.{Vec}
use Rattle.std.specs.HashMap as hash
use Rattle.std.specs.HashMap.{HashMap}
use Rattle.std.specs.List.{AllByRecursion, list_any, position}
use Rattle.std.specs.Map.{lookup, AreApart, IsKeyTest, KeepsOthers}
use Rattle.std.proofs.lemmas.Bool.{cond-true, cond-false}
use Rattle.std.proofs.lemmas.Bool.Decides.{nat_tests}
use Rattle.std.proofs.lemmas.Cmp.{nat_list_eq_equiv}
use Rattle.std.proofs.lemmas.Grind.{common_steps}
use Rattle.std.proofs.lemmas.List.{length_push}
use Rattle.std.proofs.lemmas.List.Folds.{position_or_len_push}
use Rattle.std.proofs.lemmas.List.Quantifiers.{position-Some}
use Rattle.std.proofs.lemmas.List.Sums.{prefix_len-le-length}
use Rattle.std.proofs.lemmas.Slice.Eq.{bytes_eq-Decides}
use Rattle.mpm_script.specs.NamePlaces.{IsNamedAt, line_place}
use Rattle.mpm_script.specs.NamePlacesInside.{FindsPlaces}

-- a name has a place exactly if it is among the names
pub has_place : (name : List ℕ) (names : List (List ℕ)) → is_some (line_place name names) ≡ list_any (λ other. bytes_eq other name) names
has_place name [] = refl
has_place name (other ∷ names) = grind (arith, nat_tests, has_place name names)

-- what stands at the place of a name
pub place_named : (name : List ℕ) (names : List (List ℕ)) (i : ℕ) → line_place name names ≡ Some i → IsNamedAt name i names
place_named name names i at =
    let found = position-Some (λ other. bytes_eq other name) names i [] at in
    record { within = found.0; same = nat_list_eq_equiv.symm name (get_or names i []) ∙ found.1 }

-- where a name has no place none is that one
tail-missing : (name other : List ℕ) (names : List (List ℕ)) → line_place name (other ∷ names) ≡ None → bytes_eq other name ≡ false × (line_place name names ≡ None)
tail-missing name other names none = (grind (arith, nat_tests), grind (arith, nat_tests))

pub place_missing : (name : List ℕ) (names : List (List ℕ)) → line_place name names ≡ None → AllByRecursion (λ other. bytes_eq name other ≡ false) names
place_missing name [] none = tt
place_missing name (other ∷ names) none =
    let both = tail-missing name other names none in (nat_list_eq_equiv.symm name other ∙ both.0, place_missing name names both.1)

-- the same of what was found
pub named_if : (name : List ℕ) (names : List (List ℕ)) (found : Option ℕ) → found ≡ line_place name names → IfSome found (λ i. IsNamedAt name i names)
named_if name names None is = tt
named_if name names (Some i) is = place_named name names i (sym is)

pub missing_if : (name : List ℕ) (names : List (List ℕ)) (found : Option ℕ) → found ≡ line_place name names
    → IfNone found (AllByRecursion (λ other. bytes_eq name other ≡ false) names)
missing_if name names None is = place_missing name names (sym is)
missing_if name names (Some i) is = tt

-- the place of a name among those of some items
pub place-map : {X : Type 0} (name_of : X → List ℕ) (name : List ℕ) (xs : List X) → line_place name (map name_of xs) ≡ position (λ x. bytes_eq (name_of x) name) xs
place-map name_of name [] = refl
place-map name_of name (x ∷ xs) = grind (arith, nat_tests, common_steps, place-map name_of name xs)

-- a further name behind the others
pub position-kept : {X : Type 0} (p : X → Bool) (xs : List X) (y : X) (i : ℕ) → position p xs ≡ Some i → position p (xs ++ y ∷ []) ≡ Some i
position-kept p xs y i at = grind (arith, nat_tests, position_or_len_push p xs y, length_push xs y, prefix_len-le-length (λ x. not (p x)) xs)

pub position-new : {X : Type 0} (p : X → Bool) (xs : List X) (y : X) → position p xs ≡ None → position p (xs ++ y ∷ []) ≡ cond (p y) (Some (length xs)) None
position-new p xs y none = grind (arith, nat_tests, position_or_len_push p xs y, length_push xs y, prefix_len-le-length (λ x. not (p x)) xs)

-- what a map finds where a name is put into it
apart : (name other key : List ℕ) → bytes_eq name other ≡ false → bytes_eq name key ≡ true → bytes_eq other key ≡ false
apart name other key n y = nat_list_eq_equiv.symm other key ∙ sym (nat_list_eq_equiv.congr name key other y) ∙ n

others-kept : {K X : Type 0} (eq : K → K → Bool) (test : K → Bool) (old new : List (K × X)) → KeepsOthers eq test old new → (other : K → Bool) → IsKeyTest eq other
    → AreApart test other → lookup other new ≡ lookup other old
unfolding KeepsOthers
others-kept eq test old new h = h

-- a name that is new has the last place, and each other its own
finds-last : {S : Type 0} (old new : HashMap (Vec ℕ) ℕ S) (names : List (List ℕ)) (name : List ℕ)
    → FindsPlaces old names → line_place name names ≡ None
    → hash.UpdatesBy (λ (x y : Vec ℕ). bytes_eq x.items y.items) (λ (key : Vec ℕ). bytes_eq name key.items) old new (Some (length names))
    → FindsPlaces new (names ++ name ∷ [])
finds-last old new names name finds none updates other = go (bytes_eq name other) refl (line_place other names) refl
  where
    go : (same : Bool) → bytes_eq name other ≡ same → (found : Option ℕ) → line_place other names ≡ found
        → hash.get_by (λ key. bytes_eq other key.items) new ≡ line_place other (names ++ name ∷ [])
    go true is found at =
        let one : name ≡ other = (bytes_eq-Decides name other).0 is in
        subst (λ n. hash.get_by (λ key. bytes_eq n key.items) new ≡ line_place n (names ++ name ∷ [])) one
        (updates.1 ∙ sym (position-new (λ n. bytes_eq n name) names name none ∙ cond-true (bytes_eq name name) (Some (length names)) None ((bytes_eq-Decides name name).1 refl)))
    go false is found at =
        let kept : hash.get_by (λ key. bytes_eq other key.items) new ≡ line_place other names =
        others-kept _ _ _ _ updates.3 (λ key. bytes_eq other key.items) (λ x y. nat_list_eq_equiv.congr other x.items y.items) (λ key. apart name other key.items is)
        ∙ finds other in
        kept ∙ stays found at is
      where
        stays : (found : Option ℕ) → line_place other names ≡ found → bytes_eq name other ≡ false → line_place other names ≡ line_place other (names ++ name ∷ [])
        stays None at is = at ∙ sym (position-new (λ n. bytes_eq n other) names name at ∙ cond-false (bytes_eq name other) (Some (length names)) None is)
        stays (Some i) at is = at ∙ sym (position-kept (λ n. bytes_eq n other) names name i at)

none-of : (found : Option ℕ) → is_some found ≡ false → found ≡ None
none-of None e = refl
none-of (Some i) e = absurd (cc e)

pub finds-new : {S : Type 0} (old new : HashMap (Vec ℕ) ℕ S) (names : List (List ℕ)) (name : List ℕ) (key : Vec ℕ) (n : ℕ)
    → key.items ≡ name → n ≡ length names → FindsPlaces old names → false ≡ is_some (hash.get_by (λ key. bytes_eq name key.items) old)
    → hash.UpdatesBy (λ (x y : Vec ℕ). bytes_eq x.items y.items) (λ (k : Vec ℕ). bytes_eq key.items k.items) old new (Some n)
    → FindsPlaces new (names ++ name ∷ [])
finds-new old new names name key n is size finds missing updates =
    finds-last old new names name finds (none-of (line_place name names) (ap is_some (sym (finds name)) ∙ sym missing))
    (subst (λ m. hash.UpdatesBy (λ (x y : Vec ℕ). bytes_eq x.items y.items) (λ (k : Vec ℕ). bytes_eq name k.items) old new (Some m)) size
    (subst (λ text. hash.UpdatesBy (λ (x y : Vec ℕ). bytes_eq x.items y.items) (λ (k : Vec ℕ). bytes_eq text k.items) old new (Some n)) is updates))

-- a further name that is there has its first place, and so has each other
pub finds-old : {S : Type 0} (places : HashMap (Vec ℕ) ℕ S) (names : List (List ℕ)) (name : List ℕ)
    → FindsPlaces places names → true ≡ is_some (hash.get_by (λ key. bytes_eq name key.items) places) → FindsPlaces places (names ++ name ∷ [])
finds-old places names name finds some other = finds other ∙ go (line_place other names) refl (bytes_eq name other) refl
  where
    go : (found : Option ℕ) → line_place other names ≡ found → (same : Bool) → bytes_eq name other ≡ same → line_place other names ≡ line_place other (names ++ name ∷ [])
    go (Some i) at same is = at ∙ sym (position-kept (λ n. bytes_eq n other) names name i at)
    go None at false is = at ∙ sym (position-new (λ n. bytes_eq n other) names name at ∙ cond-false (bytes_eq name other) (Some (length names)) None is)
    go None at true is =
        let none : line_place name names ≡ None = subst (λ n. line_place n names ≡ None) (sym ((bytes_eq-Decides name other).0 is)) at in
        absurd (let no : true ≡ false = some ∙ ap is_some (finds name ∙ none) in cc no)
