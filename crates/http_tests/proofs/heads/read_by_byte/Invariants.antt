use Rattle.std.proofs.Common.{◌≤◌, take}
use Rattle.http_read.specs.LookedAt.{HasLookedAt}
use Rattle.http_tests.proofs.heads.read_by_byte.Given as goal

abbrev pub invariant-loop-end : goal.invariant-loop-end
invariant-loop-end l = record {
  within : l.reader.looked ≤ l.end;
  looked : HasLookedAt (take l.reader.looked l.text) l.reader;
}
