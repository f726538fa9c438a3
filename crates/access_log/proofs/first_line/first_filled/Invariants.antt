use Rattle.std.proofs.Common.{◌≡◌, length}
use Rattle.std.specs.List.{position_or_len}
use Rattle.access_log.specs.RequestLine.{is_feed, lines_of, first_filled}
use Rattle.access_log.proofs.first_line.first_filled.Given as goal

abbrev pub invariant-loop-feed : goal.invariant-loop-feed
invariant-loop-feed l = record {
  same : first_filled (lines_of l.left) ≡ first_filled (lines_of l.fn.bytes);
  feed_is : l.feed ≡ position_or_len is_feed l.left;
}

abbrev pub decreases-loop-feed : goal.decreases-loop-feed
decreases-loop-feed l = length l.left
