-- The bounds of the shape of a generation.
use Rattle.std.specs.Prelude.{ℕ, Bool, ◌&&◌, nat_le}
use Rattle.mpm_base.specs.declared.shape.Shape.{Shape}

-- the number lies between the two, or is one of them
abbrev pub is_between : ℕ → ℕ → ℕ → Bool
is_between low high n = nat_le low n && nat_le n high

-- a configuration may give these numbers
abbrev pub is_in_bounds : Shape → Bool
is_in_bounds s =
    is_between 1 64 s.threads && is_between 1 10000 s.factor && is_between 1000 65535000 s.read_ms && is_between 1 65535000 s.keep_ms
    && is_between 1 65535 s.most && is_between 1 32 s.children && is_between 1 s.children s.target
    && nat_le s.whole_ms 65535000
