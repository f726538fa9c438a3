use Rattle.std.proofs.Common.{◌+◌, take, ap, ◌∙◌}
use Rattle.http_read.specs.Sizes.{greatest_head}
use Rattle.access_log.specs.RequestLine.{lines_of, first_filled}
use Rattle.access_log.proofs.RequestLineLemmas.{take_within}
use Rattle.access_log.proofs.first_line.request_line.Goals as goal

pub returns : goal.returns
returns c =
    let bytes = c.args.bytes.now in
    let line = c.first_filled-line.result.now in
    let window = ap (λ n. take n bytes) c.min.ensures ∙ take_within (greatest_head + 1) bytes in
    ap (λ n. take n line) c.min-2.ensures ∙ take_within c.args.limit line
    ∙ ap (take c.args.limit) (c.first_filled-line.ensures ∙ ap (λ text. first_filled (lines_of text)) window)
