use Rattle.std.proofs.Common.{◌≡◌, ◌+◌, [], ◌∷◌, ◌++◌, take, sym, ap, ◌∙◌}
use Rattle.std.specs.List.{fold}
use Rattle.std.proofs.lemmas.Result.{on_ok_weaker}
use Rattle.script_front.specs.DraftInside.{SeenDraft}
use Rattle.script_front.specs.Editions.{after_line, conf_after, conf_file, conf_of, filed_by, site_in}
use Rattle.script_front.proofs.EditionLemmas.{conf-more, filed-more, opening-ended}
use Rattle.script_front.proofs.editions.take_opening.Goals as goal

pub loop-line-preserved : goal.loop-line-preserved
loop-line-preserved c =
    let lines = c.args.lines.now in
    let i = c.loop-line.line-index in
    let line = c.line-item.result in
    c.in_ok-change.ensures
    ∙ ap (λ (d : SeenDraft). let next : SeenDraft = record d { conf = fold conf_after d.conf (site_in line); filed = after_line d.filed line } in next) c.loop-line.invariant
    ∙ ap (λ conf. let next : SeenDraft = record { past = []; conf = conf; filed = after_line (filed_by (take i lines)) line } in next)
    (sym (conf-more [] lines i line c.loop-line-test.true c.line-item.is))
    ∙ ap (λ filed. let next : SeenDraft = record { past = []; conf = conf_of (take (i + 1) lines); filed = filed } in next)
    (sym (filed-more [] lines i line c.loop-line-test.true c.line-item.is))

pub returns : goal.returns
returns c =
    let d = c.loop-line.draft in
    on_ok_weaker c.end.result (λ e.
    let is : c.end.new.self ≡ record d { past = d.past ++ (conf_file d.conf ∷ d.filed.files) ∷ [] } = e in
    is ∙ opening-ended c.args.lines.now c.loop-line.line-index d c.loop-line-test.false c.loop-line.invariant) c.end.ensures
