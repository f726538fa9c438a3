-- Decimal digits, and the number that they spell as it is read from the front.
use Rattle.std.proofs.Common.{◌≡◌, ℕ, ◌+◌, ◌-◌, ◌*◌, ◌<◌, ◌≤◌, ◌^◌, List, length, take, get_or, [], ◌∷◌, true, arith, add-one}
use Rattle.std.specs.Char.{is_ascii_digit, digit_value}
use Rattle.std.specs.List.{list_all}
use Rattle.std.specs.Str.Parse.{digits_value, AllDigits}
use Rattle.std.proofs.Math.Nat.{pow-suc, pow-le-pow_right}
use Rattle.std.proofs.lemmas.Bool.Decides.{nat_tests}
use Rattle.std.proofs.lemmas.Int.Digits.{digits_value_more}
use Rattle.std.proofs.lemmas.Str.Parse.{digit_at}
use Rattle.std.proofs.lemmas.Grind.{common_steps}
use Rattle.mpm_base.specs.Digits.{is_number}

-- what one more digit does
pub record Step (ds : List ℕ) (i n : ℕ) : Type 0 where
  pub least : 48 ≤ get_or ds i 0
  pub greatest : get_or ds i 0 ≤ 57
  pub small : n ≤ 100000000000000000
  pub value : n * 10 + (get_or ds i 0 - 48) ≡ digits_value 10 (take (i + 1) ds)
  pub bound : n * 10 + (get_or ds i 0 - 48) < 10 ^ (i + 1)

digit_is : (d : ℕ) → 48 ≤ d → d ≤ 57 → digit_value d ≡ d - 48
digit_is d h k = grind (arith, nat_tests)

pub step : (ds : List ℕ) (i n : ℕ) → length ds ≤ 18 → AllDigits 10 ds → i < length ds → n ≡ digits_value 10 (take i ds) → n < 10 ^ i → Step ds i n
step ds i n few all h e b =
    let d = digit_at ds i all h in
    let places : i ≤ 17 = omega arith in
    let power : 10 ^ i ≤ 10 ^ 17 = pow-le-pow_right (omega arith) places in
    let more : digits_value 10 (take (i + 1) ds) ≡ digits_value 10 (take i ds) * 10 + digit_value (get_or ds i 0) = digits_value_more 10 ds i h in
    let is : digit_value (get_or ds i 0) ≡ get_or ds i 0 - 48 = digit_is (get_or ds i 0) d.0 d.1 in
    record {
      least = d.0;
      greatest = d.1;
      small = omega (arith, power, b);
      value = omega (arith, more, is, e);
      bound = rw (add-one, pow-suc) (omega (arith, b, d.1));
    }

-- a list that passes the test is of digits
all_digits : (xs : List ℕ) → list_all is_ascii_digit xs ≡ true → AllDigits 10 xs
all_digits [] h = tt
all_digits (x ∷ xs) h = grind (arith, common_steps, nat_tests, all_digits xs, digit_is x)

-- what the test of a number says
pub record Number (most : ℕ) (text : List ℕ) : Type 0 where
  pub few : length text ≤ most
  pub digits : AllDigits 10 text

pub number_parts : (most : ℕ) (text : List ℕ) → is_number most text ≡ true → Number most text
number_parts most text h =
    let all : list_all is_ascii_digit text ≡ true = grind (arith, nat_tests) in
    record { few = grind (arith, nat_tests); digits = all_digits text all }

-- a number of few digits is small
pub small_number : (most n : ℕ) (text : List ℕ) → length text ≤ most → n < 10 ^ length text → n < 10 ^ most
small_number most n text h k =
    let power : 10 ^ length text ≤ 10 ^ most = pow-le-pow_right (omega arith) h in
    omega (arith, power, k)
