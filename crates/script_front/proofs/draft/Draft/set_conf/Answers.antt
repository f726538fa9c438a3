use Rattle.script_front.proofs.DraftLemmas.{draft-changed}
use Rattle.script_front.proofs.draft.Draft.set_conf.Goals as goal

pub invariant_of-self : goal.invariant_of-self
invariant_of-self c = let d = c.self.inside in draft-changed d.history.files d.conf _ d.changed c.self.invariant
