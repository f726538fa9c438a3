use Rattle.std.proofs.Common.{◌≡◌, true, [], ◌∷◌, ◌++◌, sym, ap, refl, ◌∙◌}
use Rattle.std.specs.List.{fold}
use Rattle.std.proofs.lemmas.Result.{on_ok_weaker}
use Rattle.script_front.specs.DraftInside.{SeenDraft}
use Rattle.script_front.specs.Editions.{conf_after, conf_file, is_graceful}
use Rattle.script_front.proofs.EditionLemmas.{graceful-no_site, graceful-stays}
use Rattle.script_front.proofs.editions.take_line.Goals as goal

pub returns-then-is_graceful-clause-past : goal.returns-then-is_graceful-clause-past
returns-then-is_graceful-clause-past c =
    let d = c.args.draft.now in
    on_ok_weaker c.end.result (λ e.
    let is : c.end.new.self ≡ record d { past = d.past ++ (conf_file d.conf ∷ d.filed.files) ∷ [] } = e in
    rw (← c.if-is_graceful.ensures) (ap (λ (x : SeenDraft). x.past) is)) c.end.ensures

pub returns-then-is_graceful-clause-conf : goal.returns-then-is_graceful-clause-conf
returns-then-is_graceful-clause-conf c =
    let d = c.args.draft.now in
    let graceful : is_graceful c.args.line.now ≡ true = sym c.if-is_graceful.ensures in
    on_ok_weaker c.end.result (λ e.
    let is : c.end.new.self ≡ record d { past = d.past ++ (conf_file d.conf ∷ d.filed.files) ∷ [] } = e in
    ap (λ (x : SeenDraft). x.conf) is ∙ ap (fold conf_after d.conf) (sym (graceful-no_site c.args.line.now graceful))) c.end.ensures

pub returns-then-is_graceful-clause-filed : goal.returns-then-is_graceful-clause-filed
returns-then-is_graceful-clause-filed c =
    let d = c.args.draft.now in
    let graceful : is_graceful c.args.line.now ≡ true = sym c.if-is_graceful.ensures in
    on_ok_weaker c.end.result (λ e.
    let is : c.end.new.self ≡ record d { past = d.past ++ (conf_file d.conf ∷ d.filed.files) ∷ [] } = e in
    ap (λ (x : SeenDraft). x.filed) is ∙ graceful-stays d.filed c.args.line.now graceful) c.end.ensures
