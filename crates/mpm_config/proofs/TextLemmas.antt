-- How many bytes of a text are text.
use Rattle.std.proofs.Common.{◌≡◌, ℕ, ◌<◌, ◌≤◌, ◌==◌, nat_lt, true, false, List, length, arith, ap, sym}
use Rattle.std.specs.List.{position_or_len}
use Rattle.std.specs.Str.{IsUtf8}
use Rattle.std.specs.Str.Lossy.{utf8_valid_len}
use Rattle.std.proofs.lemmas.Str.{utf8_valid_len-IsUtf8}
use Rattle.std.proofs.lemmas.Bool.Decides.{nat_tests}
use Rattle.mpm_config.specs.Reading.{text_len}
use Rattle.mpm_config.specs.declared.fault.ConfFault.TheVariants.{NotText}
use Rattle.conf_text.proofs.WordLemmas.{position-le}

-- of UTF-8 it is what stands before the first NUL
pub text_len-utf8 : (xs : List ℕ) (n : ℕ) → IsUtf8 xs → n ≡ position_or_len (λ b. b == 0) xs → text_len xs ≡ n
text_len-utf8 xs n u e =
    let valid : utf8_valid_len xs ≡ length xs = utf8_valid_len-IsUtf8 xs u in
    let near : position_or_len (λ b. b == 0) xs ≤ length xs = position-le (λ b. b == 0) xs in
    omega arith

pub nul_refuses : (xs : List ℕ) (n : ℕ) → text_len xs ≡ n → n < length xs → (nat_lt (text_len xs) (length xs) ≡ true) × (NotText n ≡ NotText (text_len xs))
nul_refuses xs n e h =
    let test : nat_lt n (length xs) ≡ true = grind (arith, nat_tests) in
    (rw e test, ap (λ m. NotText m) (sym e))

pub no_nul : (xs : List ℕ) (n : ℕ) → text_len xs ≡ n → length xs ≤ n → nat_lt (text_len xs) (length xs) ≡ false
no_nul xs n e h =
    let test : nat_lt n (length xs) ≡ false = grind (arith, nat_tests) in
    rw e test
