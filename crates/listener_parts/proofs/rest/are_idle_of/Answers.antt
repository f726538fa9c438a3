use Rattle.std.proofs.Common.{None, List, ℕ, slice_index, ap, sym, ◌∙◌}
use Rattle.listener_parts.proofs.DidLemmas.{did_look, did_nothing}
use Rattle.listener_parts.proofs.RoundLemmas.{credits_stay, found_idle}
use Rattle.listener_parts.proofs.rest.are_idle_of.Goals as goal

-- ## It has no credit

pub returns-then-threads-eq0-clause-did : goal.returns-then-threads-eq0-clause-did
returns-then-threads-eq0-clause-did g c = did_nothing c.args.pass.now.seat.me.0 None c.requires.none

-- ## It has one

pub is_idle-requires-clause-credit : goal.is_idle-requires-clause-credit
is_idle-requires-clause-credit g c =
    ap (λ (l : List ℕ). slice_index l c.args.child) (sym c.requires.credits.own) ∙ sym c.of-threads.ensures

pub returns-clause-did : goal.returns-clause-did
returns-clause-did g c = did_look c.args.child c.of-threads.result _ _ c.is_idle.result c.is_idle.ensures.looks c.requires.none

pub returns-clause-credits : goal.returns-clause-credits
returns-clause-credits g c = credits_stay c.args.credits.now _ _ c.is_idle.ensures.credits c.requires.credits

pub returns-clause-still : goal.returns-clause-still
returns-clause-still g c = c.is_idle.ensures.looks.still c.requires.opened c.requires.rest

pub returns-then-threads-eq0-clause-idle : goal.returns-then-threads-eq0-clause-idle
returns-then-threads-eq0-clause-idle g c _ some = absurd (some (sym c.of-threads.ensures ∙ c.if-threads-eq0.true))

pub returns-clause-idle : goal.returns-clause-idle
returns-clause-idle g c idle some =
    found_idle c.args.child c.of-threads.result _ _ _ c.is_idle.result c.of-threads.ensures idle c.is_idle.ensures.looks c.requires.none
    (c.is_idle.ensures.row ∙ c.requires.none)
