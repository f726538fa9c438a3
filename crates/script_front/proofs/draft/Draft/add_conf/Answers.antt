use Rattle.std.proofs.Common.{◌≡◌, [], ◌∷◌, ◌++◌, drop, ap, ◌∙◌, append_assoc}
use Rattle.std.proofs.lemmas.Result.{on_ok_weaker}
use Rattle.script_front.specs.DraftInside.{SeenDraft}
use Rattle.script_front.proofs.DraftLemmas.{draft-changed}
use Rattle.script_front.proofs.draft.Draft.add_conf.Goals as goal

pub invariant_of-self : goal.invariant_of-self
invariant_of-self c = let d = c.self.inside in draft-changed d.history.files d.conf _ d.changed c.self.invariant

pub returns : goal.returns
returns c =
    let d = c.self.inside in
    let text = c.args.text.now in
    on_ok_weaker c.add_pair.result (λ e.
    let more : c.add_pair.new.self ≡ d.conf ++ text ++ 10 ∷ [] = e in
    rw (← c.self.view_is) (ap (λ conf. let draft : SeenDraft = record { past = d.history.past; conf = conf; filed = record { moment = d.moment; files = drop 1 d.history.files } } in draft) (more ∙ append_assoc d.conf text (10 ∷ []))))
    c.add_pair.ensures.ok
