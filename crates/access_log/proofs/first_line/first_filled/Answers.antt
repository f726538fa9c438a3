use Rattle.std.proofs.Common.{◌+◌, ◌≡◌, ◌<◌, take, sym, ap, ◌∙◌, subst, arith}
use Rattle.std.proofs.lemmas.List.{take_rest}
use Rattle.access_log.specs.RequestLine.{lines_of, first_filled}
use Rattle.access_log.proofs.RequestLineLemmas.{line_found, line_skipped, line_unended}
use Rattle.http_read.specs.HeadLines.{line_len}
use Rattle.access_log.proofs.first_line.first_filled.Goals as goal

pub returns-then-len-gt0 : goal.returns-then-len-gt0
returns-then-len-gt0 c =
    let left = c.loop-feed.left.now in
    let feed = c.loop-feed.feed in
    let len = c.line_len-len.ensures in
    ap (λ n. take n left) len ∙ line_found left feed c.loop-feed.invariant.feed_is c.loop-feed-test.true (subst (λ n. 0 < n) len c.if-len-gt0.true)
    ∙ c.loop-feed.invariant.same

pub loop-feed-preserved : goal.loop-feed-preserved
loop-feed-preserved c =
    let left = c.loop-feed.left.now in
    let feed = c.loop-feed.feed in
    let empty : line_len (take feed left) ≡ 0 = sym c.line_len-len.ensures ∙ omega arith in
    record {
      same = ap (λ text. first_filled (lines_of text)) (take_rest left (feed + 1))
          ∙ line_skipped left feed c.loop-feed.invariant.feed_is c.loop-feed-test.true empty ∙ c.loop-feed.invariant.same;
      feed_is = c.place_of_byte-feed-in-loop-feed.ensures.place;
    }

pub returns : goal.returns
returns c = line_unended c.loop-feed.left.now c.loop-feed.feed c.loop-feed.invariant.feed_is c.loop-feed-test.false ∙ c.loop-feed.invariant.same
