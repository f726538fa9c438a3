use Rattle.std.proofs.Common.{◌++◌, None, Some, subst, ap, ◌∙◌, arith}
use Rattle.std.proofs.lemmas.Bool.{iff_false}
use Rattle.std.proofs.lemmas.Bool.Decides.{Decides-eqb}
use Rattle.std.proofs.lemmas.List.Sums.{prefix_len-le-length}
use Rattle.std.proofs.lemmas.Slice.Eq.{strip_prefix_is}
use Rattle.mpm_script.specs.ScriptLine.{is_name_byte, IsName}
use Rattle.mpm_script.proofs.CutLemmas.{cut_at}
use Rattle.mpm_script.proofs.LineWordLemmas.{one_name}
use Rattle.mpm_script.proofs.line_words.named.Goals as goal

pub returns-in_err-rest-clause-none : goal.returns-in_err-rest-clause-none
returns-in_err-rest-clause-none c =
    let none = strip_prefix_is Decides-eqb c.args.text.now c.args.word.now None c.in_err-rest.ensures.cases in
    rw c.from_residual.ensures (λ name behind h. none (name ++ behind) h.whole)

pub split_at-requires : goal.split_at-requires
split_at-requires c = omega (arith, c.name_len.ensures, prefix_len-le-length is_name_byte c.in_ok-rest.rest.now)

pub returns-then-is_name-clause-some : goal.returns-then-is_name-clause-some
returns-then-is_name-clause-some c =
    let rest = c.in_ok-rest.rest in
    let front = strip_prefix_is Decides-eqb c.args.text.now c.args.word.now (Some rest) c.in_ok-rest.ensures.cases in
    let cut = cut_at is_name_byte rest.now c.name_len.result c.split_at.result.0.now c.split_at.result.1.now
    c.name_len.ensures c.split_at.ensures.front c.split_at.ensures.back c.split_at.ensures.by_index.0 in
    record {
      whole = front ∙ ap (λ xs. c.args.word.now ++ xs) cut.whole;
      is_name = c.is_name.ensures.0 c.if-is_name.true;
      stops = cut.stops;
    }

pub returns-else-is_name-clause-none : goal.returns-else-is_name-clause-none
returns-else-is_name-clause-none c = λ name behind h.
    let rest = c.in_ok-rest.rest in
    let front = strip_prefix_is Decides-eqb c.args.text.now c.args.word.now (Some rest) c.in_ok-rest.ensures.cases in
    let cut = cut_at is_name_byte rest.now c.name_len.result c.split_at.result.0.now c.split_at.result.1.now
    c.name_len.ensures c.split_at.ensures.front c.split_at.ensures.back c.split_at.ensures.by_index.0 in
    let same = one_name c.args.word.now c.args.text.now name behind rest.now c.split_at.result.0.now c.split_at.result.1.now
    front cut h in
    iff_false c.is_name.ensures c.if-is_name.false (subst IsName same.0 h.is_name)
