-- The list has no slot twice, and each number of the span so far.
use Rattle.std.proofs.Common.{◌==◌, ◌+◌, ◌≤◌, length}
use Rattle.std.specs.List.{IsDistinct}
use Rattle.socket_links.proofs.FillLemmas.{filled}
use Rattle.socket_links.proofs.events.fill_up.Given as goal

abbrev pub invariant-loop-number : goal.invariant-loop-number
invariant-loop-number l = record {
  distinct : IsDistinct (λ a b. a == b) l.ready;
  few : length l.ready ≤ 256;
  filled : l.number ≤ 4294967040 + filled 4294967040 l.number l.ready;
}
