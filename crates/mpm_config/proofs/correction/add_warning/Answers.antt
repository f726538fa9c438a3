use Rattle.std.proofs.Common.{◌++◌, ◌∙◌, ap, codes, decimal}
use Rattle.std.proofs.lemmas.Result.{on_ok_weaker}
use Rattle.mpm_config.proofs.PieceLemmas.{one_more}
use Rattle.mpm_config.proofs.correction.add_warning.Goals as goal

pub returns : goal.returns
returns c =
    let text = c.args.text.now in
    let name = c.args.name.now in
    let word = codes "warning: " in
    let named = word ++ name in
    let before = named ++ codes " " ++ decimal c.args.was in
    let after = before ++ codes " changed to " ++ decimal c.args.now in
    let at_name = one_more text word _ _ _ c.in_ok-add.ensures.ok (c.in_ok-add-2.ensures.ok ∙ ap (λ n. c.add.new.self ++ n) c.as_bytes.ensures.value) in
    let at_space = one_more text named _ _ _ at_name c.in_ok-add-3.ensures.ok in
    let at_before = one_more text (named ++ codes " ") _ _ _ at_space c.in_ok-add_number.ensures.ok in
    let at_words = one_more text before _ _ _ at_before c.in_ok-add-4.ensures.ok in
    let at_after = one_more text (before ++ codes " changed to ") _ _ _ at_words c.in_ok-add_number-2.ensures.ok in
    on_ok_weaker c.add-5.result (λ e. one_more text after _ _ _ at_after e) c.add-5.ensures.ok
