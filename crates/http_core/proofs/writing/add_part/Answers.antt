use Rattle.std.proofs.Common.{◌++◌, ◌-◌, ap, ◌∙◌, codes, decimal}
use Rattle.std.proofs.lemmas.Result.{on_ok_weaker}
use Rattle.http_core.proofs.WritingLemmas.{one_more}
use Rattle.http_core.proofs.writing.add_part.Goals as goal

pub returns : goal.returns
returns c =
    let head = c.args.head.now in
    let part = c.args.part.now in
    let unit = codes "Content-Range: bytes " in
    let from = unit ++ decimal part.from in
    let to = from ++ codes "-" ++ decimal (part.to - 1) in
    let size = to ++ codes "/" ++ decimal part.size in
    let first = one_more head unit _ _ _ c.in_ok-add.ensures.ok c.in_ok-add_number.ensures.ok in
    let dash = one_more head from _ _ _ first c.in_ok-add-2.ensures.ok in
    let last = one_more head (from ++ codes "-") _ _ _ dash (c.in_ok-add_number-2.ensures.ok ∙ ap (λ n. c.add-2.new.self ++ decimal n) c.saturating_sub.ensures) in
    let slash = one_more head to _ _ _ last c.in_ok-add-3.ensures.ok in
    let whole = one_more head (to ++ codes "/") _ _ _ slash c.in_ok-add_number-3.ensures.ok in
    on_ok_weaker c.add-4.result (λ e. one_more head size _ _ _ whole e) c.add-4.ensures.ok
