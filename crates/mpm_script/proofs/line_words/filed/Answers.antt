use Rattle.std.proofs.Common.{None, Some, sym, subst, arith}
use Rattle.std.specs.Prelude.{codes}
use Rattle.std.proofs.lemmas.Bool.{iff_false}
use Rattle.std.proofs.lemmas.Bool.Decides.{Decides-eqb}
use Rattle.std.proofs.lemmas.List.Sums.{prefix_len-le-length}
use Rattle.std.proofs.lemmas.Slice.Eq.{strip_prefix_is}
use Rattle.mpm_script.specs.ScriptLine.{is_file_byte, IsFileName}
use Rattle.mpm_script.proofs.CutLemmas.{cut_at}
use Rattle.mpm_script.proofs.LineWordLemmas.{one_file}
use Rattle.mpm_script.proofs.line_words.filed.Goals as goal

pub split_at-requires : goal.split_at-requires
split_at-requires c = omega (arith, c.file_name_len.ensures, prefix_len-le-length is_file_byte c.in_ok-rest.rest.now)

pub returns-in_err-behind-clause-none : goal.returns-in_err-behind-clause-none
returns-in_err-behind-clause-none c =
    let rest = c.in_ok-rest.rest in
    let front = strip_prefix_is Decides-eqb c.args.text.now (codes "file ") (Some rest) c.in_ok-rest.ensures.cases in
    let none = strip_prefix_is Decides-eqb c.split_at.result.1.now (codes " ") None c.in_err-behind.ensures.cases in
    let cut = cut_at is_file_byte rest.now c.file_name_len.result c.split_at.result.0.now c.split_at.result.1.now
    c.file_name_len.ensures c.split_at.ensures.front c.split_at.ensures.back c.split_at.ensures.by_index.0 in
    rw c.from_residual-in_err-behind.ensures
    (λ name behind h. none behind (sym (one_file c.args.text.now name behind rest.now c.split_at.result.0.now c.split_at.result.1.now
    front cut h).1))

pub returns-else-is_file_name-clause-none : goal.returns-else-is_file_name-clause-none
returns-else-is_file_name-clause-none c = λ name behind h.
    let rest = c.in_ok-rest.rest in
    let front = strip_prefix_is Decides-eqb c.args.text.now (codes "file ") (Some rest) c.in_ok-rest.ensures.cases in
    let cut = cut_at is_file_byte rest.now c.file_name_len.result c.split_at.result.0.now c.split_at.result.1.now
    c.file_name_len.ensures c.split_at.ensures.front c.split_at.ensures.back c.split_at.ensures.by_index.0 in
    let same = one_file c.args.text.now name behind rest.now c.split_at.result.0.now c.split_at.result.1.now
    front cut h in
    iff_false c.is_file_name.ensures c.if-is_file_name.false (subst IsFileName same.0 h.is_name)
