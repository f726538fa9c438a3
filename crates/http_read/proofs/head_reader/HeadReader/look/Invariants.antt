use Rattle.std.proofs.Common.{◌≡◌, ◌≤◌, ◌-◌, length, take}
use Rattle.http_read.specs.LookedAt.{HasLookedAt}
use Rattle.http_read.proofs.head_reader.HeadReader.look.Given as goal

abbrev pub invariant-loop-feed : goal.invariant-loop-feed
invariant-loop-feed l = record {
  within : l.self.looked ≤ length l.window;
  looked : HasLookedAt (take l.self.looked l.window) l.self;
  limits : l.self.limits ≡ l.fn.self.limits;
}

abbrev pub decreases-loop-feed : goal.decreases-loop-feed
decreases-loop-feed l = length l.initial.window - l.self.looked
