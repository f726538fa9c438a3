-- Lists whose items are alike.
use Rattle.std.proofs.Common.{◌≡◌, ℕ, zero, suc, Some, slice_get, get_or, replicate, refl}

-- each item of a list of one item is that item
pub get-replicate : {X : Type 0} (n i : ℕ) (x y : X) → slice_get (replicate n x) i ≡ Some y → x ≡ y
get-replicate zero i x y at = absurd (cc)
get-replicate (suc n) zero x y at = cc
get-replicate (suc n) (suc i) x y at = get-replicate n i x y at

-- so is what is read of it, past its end too
pub get_or-alike : {X : Type 0} (n i : ℕ) (x : X) → get_or (replicate n x) i x ≡ x
get_or-alike zero i x = refl
get_or-alike (suc n) zero x = refl
get_or-alike (suc n) (suc i) x = get_or-alike n i x
