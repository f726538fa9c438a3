use Rattle.std.proofs.Common.{Bool, slice_index, List, ℕ, ap, sym, subst, ◌∙◌, true≢false}
use Rattle.idle_workers.specs.Found.{TakesCreditBack}
use Rattle.listener_parts.proofs.DidLemmas.{did_uncredit, keeps_uncredited, listener_uncredited}
use Rattle.listener_parts.proofs.RoundLemmas.{credits_given, credits_stay, not_taken_back, taken_back}
use Rattle.listener_parts.proofs.credits.take_credit_back.Goals as goal

pub uncredit-requires-clause-credit : goal.uncredit-requires-clause-credit
uncredit-requires-clause-credit g c =
    ap (λ (l : List ℕ). slice_index l c.args.child) (sym c.requires.credits.own) ∙ sym c.of-threads.ensures

-- ## It was taken back

pub returns-then-uncredit-clause-listener : goal.returns-then-uncredit-clause-listener
returns-then-uncredit-clause-listener g c =
    listener_uncredited c.args.child c.of-threads.result _ _ c.uncredit.result c.uncredit.ensures.hand c.uncredit.ensures.uncredited c.requires.listener

pub returns-then-uncredit-clause-did : goal.returns-then-uncredit-clause-did
returns-then-uncredit-clause-did g c = did_uncredit c.args.child c.of-threads.result _ _ c.uncredit.result c.uncredit.ensures.uncredited c.requires.none

pub returns-then-uncredit-clause-seen : goal.returns-then-uncredit-clause-seen
returns-then-uncredit-clause-seen g c = (keeps_uncredited c.args.child c.of-threads.result _ _ c.uncredit.result c.uncredit.ensures.uncredited).seen

pub returns-then-uncredit-clause-credits : goal.returns-then-uncredit-clause-credits
returns-then-uncredit-clause-credits g c =
    let takes =
    subst (λ (done : Bool). TakesCreditBack c.args.child c.of-threads.result c.args.pass.now.seat.me.0 done c.uncredit.new.pass.seat.me.0) c.if-uncredit.true
    c.uncredit.ensures.uncredited in
    credits_given c.args.credits.now c.set.new.self c.args.child 0 _ _ c.requires.credits c.set.ensures.set (taken_back c.args.child c.of-threads.result _ _ takes)

pub returns-then-uncredit-clause-back : goal.returns-then-uncredit-clause-back
returns-then-uncredit-clause-back g c _ = c.set.ensures.set

pub returns-then-uncredit-clause-stays : goal.returns-then-uncredit-clause-stays
returns-then-uncredit-clause-stays g c z = absurd (true≢false z)

-- ## It wasn't

pub returns-clause-listener : goal.returns-clause-listener
returns-clause-listener g c =
    listener_uncredited c.args.child c.of-threads.result _ _ c.uncredit.result c.uncredit.ensures.hand c.uncredit.ensures.uncredited c.requires.listener

pub returns-clause-did : goal.returns-clause-did
returns-clause-did g c = did_uncredit c.args.child c.of-threads.result _ _ c.uncredit.result c.uncredit.ensures.uncredited c.requires.none

pub returns-clause-seen : goal.returns-clause-seen
returns-clause-seen g c = (keeps_uncredited c.args.child c.of-threads.result _ _ c.uncredit.result c.uncredit.ensures.uncredited).seen

pub returns-clause-credits : goal.returns-clause-credits
returns-clause-credits g c =
    let takes =
    subst (λ (done : Bool). TakesCreditBack c.args.child c.of-threads.result c.args.pass.now.seat.me.0 done c.uncredit.new.pass.seat.me.0) c.if-uncredit.false
    c.uncredit.ensures.uncredited in
    credits_stay c.args.credits.now _ _ (not_taken_back c.args.child c.of-threads.result _ _ takes) c.requires.credits

pub returns-clause-back : goal.returns-clause-back
returns-clause-back g c z = absurd (true≢false (sym z))
