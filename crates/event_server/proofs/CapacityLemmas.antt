-- How many hundreds lie below a number.
use Rattle.std.proofs.Common.{◌≡◌, ◌↔◌, ℕ, ◌+◌, ◌*◌, ◌/◌, ◌<◌, true, nat_lt, arith}
use Rattle.std.proofs.lemmas.Bool.{lt-ltb, ltb-true}

-- where so many hundreds lie below some more hundreds and a rest, they are fewer than these and those that the rest begins
pub fewer : (threads rest count : ℕ) → 100 * count < 100 * threads + rest → count < threads + (rest + 99) / 100
fewer threads rest count h = omega (arith, h)

pub below : (threads rest count : ℕ) → count < threads + (rest + 99) / 100 → 100 * count < 100 * threads + rest
below threads rest count h = omega (arith, h)

-- both at once
pub fewer_where_below : (threads rest count : ℕ)
    → (nat_lt (100 * count) (100 * threads + rest) ≡ true) ↔ (count < threads + (rest + 99) / 100)
fewer_where_below threads rest count = (
  λ h. fewer threads rest count (ltb-true (100 * count) (100 * threads + rest) h),
  λ h. lt-ltb (100 * count) (100 * threads + rest) (below threads rest count h),
)
