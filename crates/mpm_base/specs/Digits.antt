-- Numbers in decimal digits.
use Rattle.std.specs.Prelude.{ℕ, Bool, ◌&&◌, List, length, nat_le, Option, None, Some, if◌then◌else◌}
use Rattle.std.specs.List.{list_all}
use Rattle.std.specs.Char.{is_ascii_digit}
use Rattle.std.specs.Str.Parse.{digits_value}

-- the text is 1 to so many decimal digits
abbrev pub is_number : ℕ → List ℕ → Bool
is_number most text = nat_le 1 (length text) && nat_le (length text) most && list_all is_ascii_digit text

-- the number that the text is, where it is 1 to so many decimal digits
abbrev pub number_in_digits : ℕ → List ℕ → Option ℕ
number_in_digits most text = if is_number most text then Some (digits_value 10 text) else None
