use Rattle.std.proofs.Common.{None, Some}
use Rattle.std.proofs.lemmas.Bool.Decides.{Decides-eqb}
use Rattle.std.proofs.lemmas.Result.{IfOk-weaker}
use Rattle.std.proofs.lemmas.Slice.Eq.{strip_prefix_is}
use Rattle.mpm_script.proofs.LineLemmas.{spelled_from}
use Rattle.mpm_script.proofs.line_reader.spelled_behind.Goals as goal

pub returns-in-Some : goal.returns-in-Some
returns-in-Some c =
    let cut = strip_prefix_is Decides-eqb c.args.text.now c.args.word.now (Some c.in-Some.spelling) c.in-Some.ensures.cases in
    IfOk-weaker c.spelled.result _ _ (spelled_from c.args.word.now c.args.text.now c.in-Some.spelling.now cut) c.spelled.ensures

pub returns-in-None : goal.returns-in-None
returns-in-None c = λ bytes h.
    strip_prefix_is Decides-eqb c.args.text.now c.args.word.now None c.in-None.ensures.cases h.0 h.1
