-- The corrections in terms of plain numbers, and what holds of the numbers after them.
use Rattle.std.proofs.Common.{◌≡◌, ℕ, ◌+◌, ◌-◌, ◌*◌, ◌/◌, ◌%◌, ◌<◌, ◌≤◌, ◌^◌, ◌==◌, ◌&&◌, Bool, true, nat_le, nat_lt, if◌then◌else◌, Some, None, unwrap_or, subst, sym, arith}
use Rattle.std.proofs.Math.Nat.{mul-le-mul_right}
use Rattle.std.proofs.lemmas.Nat.{le-div, div_below, div-add-mod'}
use Rattle.std.proofs.lemmas.Bool.{le-leb}
use Rattle.std.proofs.lemmas.Bool.Decides.{nat_tests}
use Rattle.mpm_config.specs.declared.numbers.Numbers.{Numbers}
use Rattle.mpm_config.specs.declared.directive.Quantity.TheVariants.{ServerLimit, ThreadLimit, MinSpareThreads, AsyncRequestWorkerFactor, Timeout, RequestReadTimeout, KeepAliveTimeout, MaxKeepAliveRequests}
use Rattle.mpm_config.specs.Numbers.{IsInRange}
use Rattle.mpm_config.specs.Correction.{order, after_corrections}
use Rattle.mpm_config.specs.CorrectionInside.{AllReady}
use Rattle.mpm_config.specs.Shape.{shape_of_numbers}
use Rattle.mpm_base.specs.Shape.{is_between, is_in_bounds}
use Rattle.mpm_base.specs.declared.shape.Shape.{Shape}

-- a number that is raised to a bound, lowered to one, made 1 where it is 0, made a multiple
abbrev pub up : ℕ → ℕ → ℕ
up x b = unwrap_or (if nat_lt x b then Some b else None) x

abbrev pub down : ℕ → ℕ → ℕ
down x b = unwrap_or (if nat_lt b x then Some b else None) x

abbrev pub one : ℕ → ℕ
one x = unwrap_or (if x == 0 then Some 1 else None) x

abbrev pub whole : ℕ → ℕ → ℕ
whole x t = unwrap_or (if x % t == 0 then None else Some (x - x % t)) x

pub up-ge : (x b : ℕ) → b ≤ up x b
up-ge x b = grind (arith, nat_tests)

pub down-le : (x b : ℕ) → down x b ≤ b
down-le x b = grind (arith, nat_tests)

pub down-ge : (x b m : ℕ) → m ≤ x → m ≤ b → m ≤ down x b
down-ge x b m h k = grind (arith, nat_tests)

pub one-ge : (x : ℕ) → 1 ≤ one x
one-ge x = grind (arith, nat_tests)

pub one-le : (x m : ℕ) → x ≤ m → 1 ≤ m → one x ≤ m
one-le x m h k = grind (arith, nat_tests)

-- a number that is not below t stays so where it is made a multiple of t
pub whole-ge : (x t : ℕ) → 0 < t → t ≤ x → t ≤ whole x t
whole-ge x t h k =
    let q : 1 ≤ x / t = le-div 1 x t h (omega arith) in
    let e : x / t * t + x % t ≡ x = div-add-mod' x t in
    let m : 1 * t ≤ x / t * t = mul-le-mul_right t q in
    grind (arith, nat_tests)

-- the number of threads after its two corrections
pub threads_bounds : (t limit : ℕ) → 1 ≤ limit → limit ≤ 64 → (1 ≤ down (one t) limit) × (down (one t) limit ≤ 64)
threads_bounds t limit h k =
    let a : 1 ≤ one t = one-ge t in
    let b : down (one t) limit ≤ limit = down-le (one t) limit in
    (down-ge (one t) limit 1 a h, omega arith)

-- a product of two small numbers fits
product_fits : (a b : ℕ) → a ≤ 32 → b ≤ 64 → a * b < 2 ^ 32
product_fits a b h k =
    let p : a * b ≤ 32 * b = mul-le-mul_right b h in
    omega arith

pub ready : (n : Numbers) → IsInRange n → AllReady order n
ready n h =
    let limit = h ThreadLimit in
    let servers = h ServerLimit in
    let spare = h MinSpareThreads in
    let t = threads_bounds n.threads n.thread_limit limit.least limit.greatest in
    let product = product_fits n.server_limit (down (one n.threads) n.thread_limit) servers.greatest t.1 in
    let small : one n.min_spare ≤ 999999999 = one-le n.min_spare 999999999 spare.greatest (omega arith) in
    let total : one n.min_spare + down (one n.threads) n.thread_limit < 2 ^ 32 = omega arith in
    (tt, (tt, (tt, (t.0, (product, (tt, (t.0, (tt, (total, (tt, tt))))))))))

-- the workers after their three corrections: at least the threads, at most as many as the servers' limit times the threads
pub workers_bounds : (w t limit : ℕ) → 1 ≤ t → 1 ≤ limit → limit ≤ 32 →
    let v = down (whole (up w t) t) (limit * t) in (1 ≤ v / t) × (v / t ≤ 32)
workers_bounds w t limit a b k =
    let many : t ≤ up w t = up-ge w t in
    let kept : t ≤ whole (up w t) t = whole-ge (up w t) t a many in
    let room : 1 * t ≤ limit * t = mul-le-mul_right t b in
    let least : t ≤ down (whole (up w t) t) (limit * t) = down-ge (whole (up w t) t) (limit * t) t kept (omega arith) in
    let greatest : down (whole (up w t) t) (limit * t) ≤ limit * t = down-le (whole (up w t) t) (limit * t) in
    let wide : limit * t ≤ 32 * t = mul-le-mul_right t k in (
      le-div 1 (down (whole (up w t) t) (limit * t)) t a (omega arith),
      omega (arith, div_below (down (whole (up w t) t) (limit * t)) t 33 a (omega arith)),
    )

-- a number between two others lies between them as the bounds of a shape say it
within : (low high n : ℕ) → low ≤ n → n ≤ high → is_between low high n ≡ true
within low high n h k = grind (arith, nat_tests)

both : (x y : Bool) → x ≡ true → y ≡ true → (x && y) ≡ true
both x y h k = subst (λ b. (b && y) ≡ true) (sym h) k

-- a shape whose numbers lie in their bounds is in bounds
bounded : (s : Shape) → is_between 1 64 s.threads ≡ true → is_between 1 10000 s.factor ≡ true → is_between 1000 65535000 s.read_ms ≡ true
    → is_between 1 65535000 s.keep_ms ≡ true → is_between 1 65535 s.most ≡ true → is_between 1 32 s.children ≡ true
    → is_between 1 s.children s.target ≡ true → nat_le s.whole_ms 65535000 ≡ true → is_in_bounds s ≡ true
bounded s threads factor read keep most children target whole =
    both _ _ (both _ _ (both _ _ (both _ _ (both _ _ (both _ _ (both _ _ threads factor) read) keep) most) children) target) whole

-- the corrected threads of a child
pub corrected_threads : (n : Numbers) → IsInRange n → (1 ≤ (after_corrections n).threads) × ((after_corrections n).threads ≤ 64)
corrected_threads n h = threads_bounds n.threads n.thread_limit (h ThreadLimit).least (h ThreadLimit).greatest

pub in_bounds : (n : Numbers) → IsInRange n → is_in_bounds (shape_of_numbers (after_corrections n)) ≡ true
in_bounds n h =
    let limit = h ThreadLimit in
    let servers = h ServerLimit in
    let factor_range = h AsyncRequestWorkerFactor in
    let read_range = h Timeout in
    let keep_range = h KeepAliveTimeout in
    let whole_range = h RequestReadTimeout in
    let most_range = h MaxKeepAliveRequests in
    let t = threads_bounds n.threads n.thread_limit limit.least limit.greatest in
    let w = workers_bounds n.max_workers (down (one n.threads) n.thread_limit) n.server_limit t.0 servers.least servers.greatest in
    bounded (shape_of_numbers (after_corrections n))
    (within 1 64 _ t.0 t.1)
    (within 1 10000 _ factor_range.least factor_range.greatest)
    (within 1000 65535000 _ read_range.least read_range.greatest)
    (within 1 65535000 _ keep_range.least keep_range.greatest)
    (within 1 65535 _ (down-ge n.most 65535 1 most_range.least (omega arith)) (down-le n.most 65535))
    (within 1 32 _ w.0 w.1)
    (within 1 _ _ (down-ge (one n.start_servers) _ 1 (one-ge n.start_servers) w.0) (down-le (one n.start_servers) _))
    (le-leb _ 65535000 whole_range.greatest)
