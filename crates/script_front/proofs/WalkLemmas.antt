-- A walk over all places of a name, from the last one down, which changes what stands there.
use Rattle.std.proofs.Common.{◌≡◌, ℕ, zero, suc, ◌<◌, ◌≤◌, true, false, bytes_eq, List, [], ◌∷◌, ◌++◌, length, get_or, set, take, take_all, drop, map, append-nil, Option, None, Some, ap, subst, sym, refl, ◌∙◌, arith}
use Rattle.std.specs.Prelude.{⊤}
use Rattle.std.specs.List.{slice_get}
use Rattle.std.proofs.lemmas.List.{drop_all, length-append, length-drop, length-map, length-take}
use Rattle.std.proofs.lemmas.Slice.Eq.{bytes_eq-Decides}
use Rattle.mpm_script.specs.NameChains.{IsLastBelow}

-- ## Two lists, the one up to a place and the other behind it

-- the place behind which all was changed
abbrev pub reach : Option ℕ → ℕ
reach None = zero
reach (Some place) = suc place

-- between the two places the lists are alike
shift : {X : Type 0} (old new : List X) (u v : ℕ) → length old ≡ length new → u ≤ v → ((k : ℕ) → u ≤ k → k < v → slice_get old k ≡ slice_get new k)
    → take v old ++ drop v new ≡ take u old ++ drop u new
shift xs ys zero zero e l alike = refl
shift xs ys (suc u) zero e l alike = absurd (omega arith)
shift [] [] zero (suc v) e l alike = refl
shift [] [] (suc u) (suc v) e l alike = refl
shift [] (y ∷ ys) u (suc v) e l alike = absurd (omega arith)
shift (x ∷ xs) [] u (suc v) e l alike = absurd (omega arith)
shift (x ∷ xs) (y ∷ ys) zero (suc v) e l alike =
    let here : Some x ≡ Some y = alike 0 (omega arith) (omega arith) in
    let first : x ≡ y = cc in
    let rest = shift xs ys zero v (omega arith) (omega arith) (λ k from to. alike (suc k) (omega arith) (omega (arith, to))) in
    rw (rest, first)
shift (x ∷ xs) (y ∷ ys) (suc u) (suc v) e l alike =
    ap (λ zs. x ∷ zs) (shift xs ys u v (omega arith) (omega arith) (λ k from to. alike (suc k) (omega (arith, from)) (omega (arith, to))))

-- one place further down
put : {X : Type 0} (old new : List X) (place : ℕ) (x : X) → length old ≡ length new → slice_get new place ≡ Some x
    → set (take (suc place) old ++ drop (suc place) new) place x ≡ take place old ++ drop place new
put [] [] place x e is = absurd (cc)
put [] (y ∷ ys) place x e is = absurd (omega arith)
put (x' ∷ xs) [] place x e is = absurd (omega arith)
put (x' ∷ xs) (y ∷ ys) zero x e is = let first : x ≡ y = cc in rw first
put (x' ∷ xs) (y ∷ ys) (suc place) x e is = ap (λ zs. x' ∷ zs) (put xs ys place x (omega arith) is)

-- what stands there before
pub taken : {X : Type 0} (old new : List X) (place : ℕ) → place < length old → slice_get (take (suc place) old ++ drop (suc place) new) place ≡ slice_get old place
taken [] new place l = absurd (omega arith)
taken (x ∷ xs) new zero l = refl
taken (x ∷ xs) [] (suc place) l = taken xs [] place (omega (arith, l))
taken (x ∷ xs) (y ∷ ys) (suc place) l = taken xs ys place (omega (arith, l))

-- ## The walk

-- the next place has the name
abbrev pub IsPlaceOf : List ℕ → List (List ℕ) → Option ℕ → Type 0
IsPlaceOf name names None = ⊤
IsPlaceOf name names (Some place) = (place < length names) × (bytes_eq name (get_or names place []) ≡ true)

-- the lists have as many items as there are names, and are alike where another name stands
pub record Alike {X : Type 0} (name : List ℕ) (names : List (List ℕ)) (old new : List X) : Type 0 where
  pub old_each : length old ≡ length names
  pub new_each : length new ≡ length names
  pub others : (k : ℕ) → k < length names → bytes_eq name (get_or names k []) ≡ false → slice_get old k ≡ slice_get new k

-- the items are old up to the next place, and new behind it
pub record Walked {X : Type 0} (name : List ℕ) (names : List (List ℕ)) (old new now : List X) (next : Option ℕ) : Type 0 where
  pub is : now ≡ take (reach next) old ++ drop (reach next) new
  pub at : IsPlaceOf name names next

module _ {X : Type 0} (name : List ℕ) (names : List (List ℕ)) (old new : List X) (alike : Alike name names old new) where
  -- down to the last place before the bound
  walked-down : (now : List X) (bound : ℕ) (next : Option ℕ) → bound ≤ length names → now ≡ take bound old ++ drop bound new → IsLastBelow name bound names next
      → Walked name names old new now next
  walked-down now bound None l is last = record {
    is = is ∙ shift old new 0 bound (alike.old_each ∙ sym alike.new_each) (omega arith) (λ k from to. alike.others k (omega (arith, l, to)) (last k to));
    at = tt;
  }
  walked-down now bound (Some place) l is last = record {
    is = is ∙ shift old new (suc place) bound (alike.old_each ∙ sym alike.new_each) (omega (arith, last.0)) (λ k from to. alike.others k (omega (arith, l, to)) (last.2 k (omega (arith, from)) to));
    at = (omega (arith, l, last.0), last.1);
  }

  pub walked-start : (next : Option ℕ) → IsLastBelow name (length names) names next → Walked name names old new old next
  walked-start next last = walked-down old (length names) next (omega arith) (sym (whole (length names) (omega (arith, alike.old_each)) (omega (arith, alike.new_each)))) last
    where
      whole : (n : ℕ) → length old ≤ n → length new ≤ n → take n old ++ drop n new ≡ old
      whole n l m = rw (take_all n old l, drop_all n new m) (append-nil old)

  pub walked-step : (now : List X) (place : ℕ) (x : X) (next : Option ℕ) → Walked name names old new now (Some place) → slice_get new place ≡ Some x
      → IsLastBelow (get_or names place []) place names next → Walked name names old new (set now place x) next
  walked-step now place x next walked is last =
      let same : name ≡ get_or names place [] = (bytes_eq-Decides name (get_or names place [])).0 walked.at.1 in
      let below : IsLastBelow name place names next = subst (λ n. IsLastBelow n place names next) (sym same) last in
      walked-down (set now place x) place next (omega (arith, walked.at.0)) (rw walked.is (put old new place x (alike.old_each ∙ sym alike.new_each) is)) below

  -- what stands at the next place
  pub walked-at : (now : List X) (place : ℕ) → Walked name names old new now (Some place) → slice_get now place ≡ slice_get old place
  walked-at now place walked = rw walked.is (taken old new place (omega (arith, walked.at.0, alike.old_each)))

  -- no place is left
  pub walked-end : (now : List X) → Walked name names old new now None → now ≡ new
  walked-end now walked = walked.is

  pub walked-length : (now : List X) (next : Option ℕ) → Walked name names old new now next → length now ≡ length names
  walked-length now next walked =
      rw walked.is (omega (arith, within next walked.at, alike.old_each, alike.new_each, length-append (take (reach next) old) (drop (reach next) new), length-take (reach next) old, length-drop (reach next) new))
    where
      within : (next : Option ℕ) → IsPlaceOf name names next → reach next ≤ length names
      within None at = omega arith
      within (Some place) at = omega (arith, at.0)

-- ## Lists that are alike

alike-others : {X Y : Type 0} (name_of : Y → List ℕ) (f g : Y → X) (name : List ℕ) → ((y : Y) → bytes_eq name (name_of y) ≡ false → f y ≡ g y) → (ys : List Y) (k : ℕ)
    → k < length ys → bytes_eq name (get_or (map name_of ys) k []) ≡ false → slice_get (map f ys) k ≡ slice_get (map g ys) k
alike-others name_of f g name same [] k l other = absurd (omega arith)
alike-others name_of f g name same (y ∷ ys) zero l other = ap (λ x. let some : Option _ = Some x in some) (same y other)
alike-others name_of f g name same (y ∷ ys) (suc k) l other = alike-others name_of f g name same ys k (omega (arith, l)) other

-- what two functions make of the items of one list, where they agree on those of another name
pub alike-maps : {X Y : Type 0} (name_of : Y → List ℕ) (f g : Y → X) (name : List ℕ) → ((y : Y) → bytes_eq name (name_of y) ≡ false → f y ≡ g y) → (ys : List Y)
    → Alike name (map name_of ys) (map f ys) (map g ys)
alike-maps name_of f g name same ys = record {
  old_each = length-map ys f ∙ sym (length-map ys name_of);
  new_each = length-map ys g ∙ sym (length-map ys name_of);
  others = λ k l other. alike-others name_of f g name same ys k (omega (arith, l, length-map ys name_of)) other;
}

pub map-itself : {X : Type 0} (xs : List X) → map (λ x. x) xs ≡ xs
map-itself [] = refl
map-itself (x ∷ xs) = ap (λ rest. x ∷ rest) (map-itself xs)

-- the last place has the name
pub at-last : (name : List ℕ) (names : List (List ℕ)) (bound : ℕ) (next : Option ℕ) → bound ≤ length names → IsLastBelow name bound names next → IsPlaceOf name names next
at-last name names bound None l last = tt
at-last name names bound (Some place) l last = (omega (arith, l, last.0), last.1)

-- the last place before a place of the name has it too
pub at-earlier : (name : List ℕ) (names : List (List ℕ)) (place : ℕ) (next : Option ℕ) → IsPlaceOf name names (Some place) → IsLastBelow (get_or names place []) place names next
    → IsPlaceOf name names next
at-earlier name names place next at last =
    let same : name ≡ get_or names place [] = (bytes_eq-Decides name (get_or names place [])).0 at.1 in
    at-last name names place next (omega (arith, at.0)) (subst (λ n. IsLastBelow n place names next) (sym same) last)

-- and it is lower
pub reach-earlier : (name : List ℕ) (names : List (List ℕ)) (place : ℕ) (next : Option ℕ) → IsLastBelow name place names next → reach next < suc place
reach-earlier name names place None last = omega arith
reach-earlier name names place (Some next) last = omega (arith, last.0)
