-- A change of one item of a list, and a list with its places.
use Rattle.std.proofs.Common.{◌≡◌, ℕ, zero, suc, ◌+◌, ◌<◌, List, [], ◌∷◌, ◌++◌, length, take, map, get_or, slice_get, Some, refl, sym, ap, ◌∙◌, subst, add-zero, arith}
use Rattle.std.proofs.Math.ListN.{set}
use Rattle.std.specs.List.{enumerate_from}
use Rattle.conn_machine.specs.Lists.{update}

-- setting an item to what the change makes of it is that change
pub set_is_update : {X : Type 0} (xs : List X) (i : ℕ) (x x' : X) (change : X → X)
    → i < length xs → x ≡ get_or xs i x → x' ≡ change x → set xs i x' ≡ update xs i change
set_is_update [] i x x' change below is made = absurd (omega arith)
set_is_update (y ∷ xs) zero x x' change below is made = ap (λ z. z ∷ xs) (made ∙ ap change is)
set_is_update (y ∷ xs) (suc i) x x' change below is made =
    ap (λ ys. y ∷ ys) (set_is_update xs i x x' change (omega arith) is made)

-- a list with its places, one item longer
pub enumerate_from_take : {X Y : Type 0} (f : ℕ × X → Y) (n : ℕ) (xs : List X) (i : ℕ) (d : X) → i < length xs
    → map f (enumerate_from n (take (i + 1) xs)) ≡ map f (enumerate_from n (take i xs)) ++ f (n + i, get_or xs i d) ∷ []
enumerate_from_take f n [] i d below = absurd (omega arith)
enumerate_from_take f n (x ∷ xs) zero d below = rw add-zero refl
enumerate_from_take {X} {Y} f n (x ∷ xs) (suc i) d below =
    let step : map f (enumerate_from (n + 1) (take (i + 1) xs))
    ≡ map f (enumerate_from (n + 1) (take i xs)) ++ f (n + 1 + i, get_or xs i d) ∷ [] =
    enumerate_from_take f (n + 1) xs i d (omega arith) in
    let e : n + 1 + i ≡ n + suc i = omega arith in
    let step' : map f (enumerate_from (n + 1) (take (i + 1) xs))
    ≡ map f (enumerate_from (n + 1) (take i xs)) ++ f (n + suc i, get_or xs i d) ∷ [] =
    subst (λ (m : ℕ). map f (enumerate_from (n + 1) (take (i + 1) xs)) ≡ map f (enumerate_from (n + 1) (take i xs)) ++ f (m, get_or xs i d) ∷ []) e step in
    let s : suc i + 1 ≡ suc (i + 1) = omega arith in
    rw s (ap (λ (ys : List Y). f (n, x) ∷ ys) step')

-- what was made of the first so many items and their places, one item longer
pub counted_more : {X Y : Type 0} (f : ℕ × X → Y) (xs : List X) (i : ℕ) (d : X) (made made' : List Y) (y : Y)
    → made' ≡ made ++ y ∷ [] → made ≡ map f (enumerate_from 0 (take i xs)) → y ≡ f (i, get_or xs i d) → i < length xs
    → made' ≡ map f (enumerate_from 0 (take (i + 1) xs))
counted_more {X} {Y} f xs i d made made' y pushed before is below =
    let e : 0 + i ≡ i = omega arith in
    let step = enumerate_from_take f 0 xs i d below in
    let step' : map f (enumerate_from 0 (take (i + 1) xs)) ≡ map f (enumerate_from 0 (take i xs)) ++ f (i, get_or xs i d) ∷ [] =
    subst (λ (m : ℕ). map f (enumerate_from 0 (take (i + 1) xs)) ≡ map f (enumerate_from 0 (take i xs)) ++ f (m, get_or xs i d) ∷ []) e step in
    cc

-- two changes that agree on the item of the place do the same
pub update_as : {X : Type 0} (xs : List X) (i : ℕ) (x : X) (change other : X → X)
    → slice_get xs i ≡ Some x → change x ≡ other x → update xs i change ≡ update xs i other
update_as [] i x change other is same = refl
update_as (y ∷ xs) zero x change other is same =
    let e : y ≡ x = cc in
    ap (λ z. z ∷ xs) (ap change e ∙ same ∙ sym (ap other e))
update_as (y ∷ xs) (suc i) x change other is same = ap (λ ys. y ∷ ys) (update_as xs i x change other is same)
