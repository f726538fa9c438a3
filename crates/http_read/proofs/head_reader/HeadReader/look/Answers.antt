use Rattle.std.proofs.Common.{◌+◌, ◌≤◌, length, drop, refl, sym, ◌∙◌, subst, arith}
use Rattle.std.specs.Prelude.{slice_range}
use Rattle.std.proofs.lemmas.List.{take_rest, take_all, length-drop}
use Rattle.http_read.specs.HeadLines.{IsHeadLine, BreaksLineLimit}
use Rattle.http_read.specs.LookedAt.{HasLookedAt}
use Rattle.http_read.specs.ExtentsInside.{FeedStands, EndsIn, IsFullWindow, AddsLine}
use Rattle.http_read.specs.declared.head_reader.Added.TheVariants as added
use Rattle.http_read.proofs.HeadLineLemmas.{next_line, looked_on, head_ends, head_too_large, line_too_long, looked_to_end, says_unended, limits_stay}
use Rattle.http_read.proofs.head_reader.HeadReader.look.Goals as goal

pub returns-in-Ends-clause-looks : goal.returns-in-Ends-clause-looks
returns-in-Ends-clause-looks c =
    let w = c.args.window.now in
    let r = c.loop-feed.self in
    let k = c.in-Some.feed in
    let feed : FeedStands (drop r.looked w) k = subst (λ x. FeedStands x k) (take_rest w r.looked) c.in-Some.ensures in
    let line = slice_range w r.line (r.looked + k) in
    let next = next_line w r k c.loop-feed.invariant.looked c.loop-feed.invariant.within feed in
    let adds = c.in-Ends.ensures in
    let within : r.looked + k + 1 ≤ length w = omega (arith, feed.within, length-drop r.looked w) in
    subst (λ x. EndsIn x.limits w (r.looked + k + 1) x.noted) (sym adds.2)
    (head_ends w r k (r.looked + k + 1) line next refl within (omega arith) adds.0 adds.1)

pub returns-in-Ends-2-clause-looks : goal.returns-in-Ends-2-clause-looks
returns-in-Ends-2-clause-looks c =
    let w = c.args.window.now in
    let r = c.loop-feed.self in
    let k = c.in-Some.feed in
    let feed : FeedStands (drop r.looked w) k = subst (λ x. FeedStands x k) (take_rest w r.looked) c.in-Some.ensures in
    let line = slice_range w r.line (r.looked + k) in
    let next = next_line w r k c.loop-feed.invariant.looked c.loop-feed.invariant.within feed in
    let adds = c.in-Ends-2.ensures in
    let within : r.looked + k + 1 ≤ length w = omega (arith, feed.within, length-drop r.looked w) in
    subst (λ x. IsFullWindow x.limits w) (sym adds.2)
    (head_too_large w r k (r.looked + k + 1) line next refl within c.requires.small (omega arith) adds.0 adds.1)

pub returns-in-LongLine-clause-looks : goal.returns-in-LongLine-clause-looks
returns-in-LongLine-clause-looks c =
    let w = c.args.window.now in
    let r = c.loop-feed.self in
    let k = c.in-Some.feed in
    let feed : FeedStands (drop r.looked w) k = subst (λ x. FeedStands x k) (take_rest w r.looked) c.in-Some.ensures in
    let line = slice_range w r.line (r.looked + k) in
    let next = next_line w r k c.loop-feed.invariant.looked c.loop-feed.invariant.within feed in
    let adds = c.in-LongLine.ensures in
    subst (λ x. BreaksLineLimit x.limits w) (sym adds.2)
    (line_too_long w r k line next adds.0 adds.1)

pub loop-feed-preserved : goal.loop-feed-preserved
loop-feed-preserved c =
    let w = c.args.window.now in
    let r = c.loop-feed.self in
    let k = c.in-Some.feed in
    let feed : FeedStands (drop r.looked w) k = subst (λ x. FeedStands x k) (take_rest w r.looked) c.in-Some.ensures in
    let within : r.looked + k + 1 ≤ length w = omega (arith, feed.within, length-drop r.looked w) in
    let line = slice_range w r.line (r.looked + k) in
    let next = next_line w r k c.loop-feed.invariant.looked c.loop-feed.invariant.within feed in
    let new = c.add_line.new.self in
    let adds : AddsLine r line added.Goes new = c.in-Goes.ensures in
    record {
      within = within;
      looked = looked_on w r new k (r.looked + k + 1) line next c.requires.small refl within adds;
      limits = limits_stay r line new adds ∙ c.loop-feed.invariant.limits;
    }

pub returns-clause-looks : goal.returns-clause-looks
returns-clause-looks c =
    let w = c.args.window.now in
    let r = c.loop-feed.self in
    let rest : IsHeadLine (drop r.looked w) = subst IsHeadLine (take_rest w r.looked) c.in_default.ensures in
    let seen = looked_to_end w r c.loop-feed.invariant.looked c.loop-feed.invariant.within c.requires.small rest in
    says_unended w (record r { looked = length w }) c.unended.result seen c.requires.small c.unended.ensures

pub returns-clause-looked : goal.returns-clause-looked
returns-clause-looked c =
    let w = c.args.window.now in
    let r = c.loop-feed.self in
    let rest : IsHeadLine (drop r.looked w) = subst IsHeadLine (take_rest w r.looked) c.in_default.ensures in
    let seen = looked_to_end w r c.loop-feed.invariant.looked c.loop-feed.invariant.within c.requires.small rest in
    subst (λ x. HasLookedAt x (record r { looked = length w })) (sym (take_all (length w) w (omega arith))) seen
