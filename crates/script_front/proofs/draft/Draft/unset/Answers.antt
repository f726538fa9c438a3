use Rattle.std.proofs.Common.{◌≡◌, false, drop, sym, ap, ◌∙◌}
use Rattle.script_front.specs.DraftInside.{SeenDraft}
use Rattle.script_front.specs.Editions.{is_conf_name}
use Rattle.script_front.proofs.DraftLemmas.{draft-unset, others-unset}
use Rattle.script_front.proofs.draft.Draft.unset.Goals as goal

pub invariant_of-self-2 : goal.invariant_of-self-2
invariant_of-self-2 c =
    let d = c.self.inside in
    let other : is_conf_name c.args.name.now ≡ false = sym c.if-is_conf_name.ensures in
    rw (c.in_ok-unset.ensures.ok, c.text_of.ensures, c.as_slice.ensures) (draft-unset d.history.files d.conf d.changed c.args.name.now c.self.invariant other)

pub returns : goal.returns
returns c =
    let d = c.self.inside in
    let other : is_conf_name c.args.name.now ≡ false = sym c.if-is_conf_name.ensures in
    rw (← c.self.view_is, other, c.in_ok-unset.ensures.ok, c.text_of.ensures, c.as_slice.ensures)
    (ap (λ others. let draft : SeenDraft = record { past = d.history.past; conf = d.conf; filed = record { moment = d.moment; files = others } } in draft)
    (others-unset d.history.files d.conf d.changed c.args.name.now c.self.invariant other))
