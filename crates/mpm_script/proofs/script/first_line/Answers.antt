use Rattle.std.proofs.Common.{◌∷◌, ◌++◌, ap, ◌∙◌, arith}
use Rattle.std.proofs.lemmas.List.{nil_from_length}
use Rattle.std.proofs.lemmas.List.Sums.{prefix_len-le-length}
use Rattle.mpm_script.specs.Script.{is_line_byte}
use Rattle.mpm_script.proofs.CutLemmas.{cut_at}
use Rattle.mpm_script.proofs.FirstLineLemmas.{no_line_end, line_end}
use Rattle.mpm_script.proofs.script.first_line.Goals as goal

pub split_at-requires : goal.split_at-requires
split_at-requires c = omega (arith, c.line_len.ensures, prefix_len-le-length is_line_byte c.args.bytes.now)

pub returns-in_err-rest-clause-none : goal.returns-in_err-rest-clause-none
returns-in_err-rest-clause-none c =
    let cut = cut_at is_line_byte c.args.bytes.now _ _ _ c.line_len.ensures c.split_at.ensures.front c.split_at.ensures.back c.split_at.ensures.by_index.0 in
    let end = nil_from_length c.split_at.result.1.now c.in_err-rest.ensures.cases in
    rw c.from_residual.ensures (no_line_end c.args.bytes.now _ _ cut.whole cut.passes end)

pub returns-clause-some : goal.returns-clause-some
returns-clause-some c =
    let cut = cut_at is_line_byte c.args.bytes.now _ _ _ c.line_len.ensures c.split_at.ensures.front c.split_at.ensures.back c.split_at.ensures.by_index.0 in
    let end = c.in_ok-rest.ensures.cases.0 in
    let first = line_end c.split_at.result.1.now _ _ end cut.stops in
    record {
      one_line = cut.passes;
      whole = cut.whole ∙ ap (λ xs. c.split_at.result.0.now ++ xs) (end ∙ ap (λ b. b ∷ c.in_ok-rest.rest.now) first);
    }
