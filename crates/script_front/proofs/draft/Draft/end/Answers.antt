use Rattle.std.proofs.Common.{drop, refl}
use Rattle.script_front.proofs.DraftLemmas.{draft-settled}
use Rattle.script_front.proofs.draft.Draft.end.Goals as goal

pub invariant_of-self-in_err-end : goal.invariant_of-self-in_err-end
invariant_of-self-in_err-end c =
    rw (c.in_err-end.ensures.err, c.in_ok-settle.ensures.ok, c.as_slice.ensures) (draft-settled _ (drop 1 c.self.inside.history.files) c.self.inside.conf refl)

pub invariant_of-self-2 : goal.invariant_of-self-2
invariant_of-self-2 c =
    rw (c.in_ok-end.ensures.ok, c.in_ok-settle.ensures.ok, c.as_slice.ensures) (draft-settled _ (drop 1 c.self.inside.history.files) c.self.inside.conf refl)

pub returns : goal.returns
returns c = rw (← c.self.view_is, c.in_ok-end.ensures.ok, c.in_ok-settle.ensures.ok, c.as_slice.ensures) refl
