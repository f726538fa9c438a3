-- What is seen of the clock of the system.
use Rattle.std.specs.Prelude.{ℕ}

-- the moment that it answered last, or 0; and how often it was asked
pub record SeenClock : Type 0 where
  pub last : ℕ
  pub asked : ℕ
