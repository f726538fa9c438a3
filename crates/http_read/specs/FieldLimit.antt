-- The limit of field lines.
use Rattle.std.specs.Prelude.{ℕ, Bool, List, nat_lt}
use Rattle.std.specs.List.{list_any}
use Rattle.http_read.specs.declared.request.Limits.{Limits}
use Rattle.http_read.specs.HeadLines.{line_len}

-- one of the field lines is longer than its limit
abbrev pub has_long_field : Limits → List (List ℕ) → Bool
has_long_field limits fields = list_any (λ line. nat_lt limits.field (line_len line)) fields
