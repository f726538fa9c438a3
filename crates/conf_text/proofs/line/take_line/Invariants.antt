-- The lines so far, joined with the logical lines of the rest, are the logical lines of the text.
use Rattle.std.proofs.Common.{◌≡◌, ℕ, ◌+◌, ◌≤◌, length}
use denote.Text.{Utf8}
use denote.Shadow.{shadow}
use Rattle.std.specs.Str.Lines.{lines}
use Rattle.std.specs.String.{string_bytes}
use Rattle.conf_text.specs.Line.{join_next, logical}
use Rattle.conf_text.proofs.line.take_line.Given as goal

abbrev pub invariant-loop-rest : goal.invariant-loop-rest
invariant-loop-rest l =
    shadow (Utf8 l.rest)
    × ((n : ℕ) → logical n (lines l.text) ≡ join_next n (string_bytes l.line) (logical (n + l.count) (lines l.rest)))
    × (length l.rest + l.count ≤ length l.text)

abbrev pub decreases-loop-rest : goal.decreases-loop-rest
decreases-loop-rest l = length l.rest
