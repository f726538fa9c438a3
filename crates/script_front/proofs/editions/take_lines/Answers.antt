use Rattle.std.proofs.Common.{◌≡◌, [], ◌∷◌, ◌++◌, cond, take, drop, sym, ap, ◌∙◌}
use Rattle.std.specs.List.{fold}
use Rattle.std.proofs.lemmas.List.{append-nil, drop_all}
use Rattle.script_front.specs.Editions.{Filed, after_line, conf_after, conf_file, conf_of, edition_of, editions_behind, filed_by, is_graceful, site_in}
use Rattle.script_front.proofs.EditionLemmas.{conf-more, editions-more, filed-more}
use Rattle.script_front.proofs.editions.take_lines.Goals as goal

pub loop-line-init : goal.loop-line-init
loop-line-init c =
    let opening = c.args.opening.now in
    record {
      conf = c.requires.conf ∙ ap conf_of (sym (append-nil opening));
      filed = c.requires.filed ∙ ap filed_by (sym (append-nil opening));
      past = ap (λ before. c.args.draft.now.past ++ editions_behind before c.args.lines.now) (append-nil opening);
    }

pub loop-line-preserved : goal.loop-line-preserved
loop-line-preserved c =
    let opening = c.args.opening.now in
    let lines = c.args.lines.now in
    let i = c.loop-line.line-index in
    let line = c.line-item.result in
    let d = c.loop-line.draft in
    let all = c.loop-line.invariant in
    let edition : conf_file d.conf ∷ d.filed.files ≡ edition_of (opening ++ take i lines) =
    ap (λ conf. conf_file conf ∷ d.filed.files) all.conf ∙ ap (λ (filed : Filed). conf_file (conf_of (opening ++ take i lines)) ∷ filed.files) all.filed in
    record {
      conf = c.in_ok-take_line.ensures.conf ∙ ap (λ conf. fold conf_after conf (site_in line)) all.conf ∙ sym (conf-more opening lines i line c.loop-line-test.true c.line-item.is);
      filed = c.in_ok-take_line.ensures.filed ∙ ap (λ (filed : Filed). after_line filed line) all.filed ∙ sym (filed-more opening lines i line c.loop-line-test.true c.line-item.is);
      past = editions-more opening lines i line d.past _ c.loop-line-test.true c.line-item.is
          (c.in_ok-take_line.ensures.past ∙ ap (λ files. cond (is_graceful line) (d.past ++ files ∷ []) d.past) edition)
          ∙ all.past;
    }

pub returns : goal.returns
returns c =
    let lines = c.args.lines.now in
    let i = c.loop-line.line-index in
    let past = c.loop-line.draft.past in
    let before = c.args.opening.now ++ take i lines in
    let none : drop i lines ≡ [] = drop_all i lines c.loop-line-test.false in
    sym (append-nil past) ∙ ap (λ xs. past ++ editions_behind before xs) (sym none) ∙ c.loop-line.invariant.past
