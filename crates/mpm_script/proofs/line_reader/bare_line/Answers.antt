use Rattle.std.proofs.Common.{[], length, sym, ap}
use Rattle.std.proofs.lemmas.Bool.{eqb-false}
use Rattle.mpm_script.proofs.LineLemmas.{one_named}
use Rattle.mpm_script.proofs.line_reader.bare_line.Goals as goal

pub returns-else-is_empty-clause-none : goal.returns-else-is_empty-clause-none
returns-else-is_empty-clause-none c = λ name h.
    let behind = c.in_ok-name.behind.now in
    let some = eqb-false (length behind) 0 (sym c.if-is_empty.ensures) in
    let same = one_named c.args.word.now c.args.text.now name c.in_ok-name.name.now [] behind h c.in_ok-name.ensures.some in
    some (ap length (sym same.1))
