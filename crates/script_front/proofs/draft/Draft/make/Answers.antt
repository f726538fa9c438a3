use Rattle.std.proofs.Common.{[], refl}
use Rattle.script_front.proofs.DraftLemmas.{draft-settled}
use Rattle.script_front.proofs.draft.Draft.make.Goals as goal

pub invariant_of-result : goal.invariant_of-result
invariant_of-result c = rw (c.in_ok-set.ensures.ok, c.make-history.ensures, c.of.ensures, c.make.ensures) (draft-settled _ [] [] refl)
