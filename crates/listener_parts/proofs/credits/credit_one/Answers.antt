use Rattle.std.proofs.Common.{None, slice_index, List, ℕ, ap, sym, ◌∙◌}
use Rattle.listener_parts.proofs.AloneLemmas.{alone_same, credit_alone}
use Rattle.listener_parts.proofs.DidLemmas.{did_credit, did_nothing}
use Rattle.listener_parts.proofs.RoundLemmas.{credits_given}
use Rattle.listener_parts.proofs.credits.credit_one.Goals as goal

-- ## It has one

pub returns-then-of-ne0-clause-did : goal.returns-then-of-ne0-clause-did
returns-then-of-ne0-clause-did g c = did_nothing c.args.pass.now.seat.me.0 None c.requires.none

pub returns-then-of-ne0-clause-rest : goal.returns-then-of-ne0-clause-rest
returns-then-of-ne0-clause-rest g c = alone_same _

-- ## It has none

pub credit_child-threads-requires-clause-none : goal.credit_child-threads-requires-clause-none
credit_child-threads-requires-clause-none g c =
    ap (λ (l : List ℕ). slice_index l c.args.child) (sym c.requires.credits.own) ∙ sym c.of.ensures ∙ c.if-of-ne0.false

pub returns-clause-did : goal.returns-clause-did
returns-clause-did g c =
    let t = c.credit_child-threads.ensures.credited in
    did_credit t.0 c.args.child c.credit_child-threads.result _ _ t.1 (c.credit_child-threads.ensures.row ∙ c.requires.none)

pub returns-clause-rest : goal.returns-clause-rest
returns-clause-rest g c =
    let t = c.credit_child-threads.ensures.credited in
    credit_alone c.others_leave_the_rest_to_the_listener.ensures t.0 c.args.child c.credit_child-threads.result _ _ c.requires.listener.number t.1

pub returns-clause-credits : goal.returns-clause-credits
returns-clause-credits g c =
    credits_given c.args.credits.now c.set.new.self c.args.child c.credit_child-threads.result _ _ c.requires.credits c.set.ensures.set c.credit_child-threads.ensures.credited.1.credits
