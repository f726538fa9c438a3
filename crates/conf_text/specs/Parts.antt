-- The parts of a text around a byte.
use Rattle.std.specs.Prelude.{ℕ, ◌==◌, nat_lt, if◌then◌else◌, List, length, Option, Some, None}
use Rattle.std.specs.List.{before_first, after_first, position_or_len}

-- what stands before and after the first byte c
pub record Parts : Type 0 where
  pub before : List ℕ
  pub after : List ℕ

-- the bytes before and behind the first of that byte
abbrev pub parts_around : ℕ → List ℕ → Option Parts
parts_around c v =
    if nat_lt (position_or_len (λ b. b == c) v) (length v)
    then Some (record { before = before_first (λ b. b == c) v; after = after_first (λ b. b == c) v }) else None
