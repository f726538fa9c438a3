use Rattle.std.proofs.Common.{◌++◌, ◌+◌, true, codes, length, sym, ap, ◌∙◌}
use Rattle.std.proofs.lemmas.List.{length_push}
use Rattle.std.proofs.lemmas.Result.{on_ok_weaker}
use Rattle.httpdate.specs.Date.{date_text}
use Rattle.http_core.specs.Reply.{connection_line, first_lines, last_lines, head_line_of}
use Rattle.http_core.specs.Code.{code_text}
use Rattle.http_core.proofs.WritingLemmas.{one_more}
use Rattle.http_core.proofs.writing.write_refusal.Goals as goal

pub returns : goal.returns
returns c =
    let head = c.args.head.now in
    let first = first_lines c.args.code (date_text c.args.date.now) in
    let second = first ++ connection_line true 1 in
    let lines = c.in_ok-add_first_lines.ensures ∙ ap (λ t. t ++ first) c.reserve.ensures in
    let connection = one_more head first _ _ _ lines c.in_ok-add_connection.ensures in
    let kind = one_more head second _ _ _ connection c.in_ok-add.ensures.ok in
    let size = ap (λ t. length t + 1) c.text.ensures ∙ sym (length_push (code_text c.args.code) 10) in
    on_ok_weaker c.add_last_lines.result
    (λ e. one_more head (second ++ head_line_of (codes "Content-Type: text/plain")) _ _ _ kind (e ∙ ap (λ n. c.add.new.self ++ last_lines n) size)) c.add_last_lines.ensures
