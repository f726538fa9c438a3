use Rattle.std.proofs.lemmas.Result.{err_from_is_err_and}
use Rattle.mpm_script.proofs.ReadLineLemmas.{refused_by}
use Rattle.mpm_script.proofs.script.read_line.Goals as goal

pub returns-in_default-clause-err : goal.returns-in_default-clause-err
returns-in_default-clause-err c = (
  c.next_number-number.ensures,
  record {
    some = c.requires.some;
    no_line = λ line behind h. absurd ((rw c.in_default.is at c.in_ok-line.ensures) line behind h);
  },
)

pub returns-in_err-check-clause-err : goal.returns-in_err-check-clause-err
returns-in_err-check-clause-err c =
    let begins = rw c.in-Some.is at c.in_ok-line.ensures in
    let same = err_from_is_err_and c.from_residual-in_err-check.result c.from_residual-in_err-check.ensures.1 in
    rw (same.1, same.2)
    (refused_by c.one_line.ensures c.args.read.now.script c.args.bytes.now c.in-Some.line c.in-Some.rest.now c.next_number-number.result c.in_err-check.field-0.0 begins c.requires.some c.next_number-number.ensures c.in_err-check.ensures.err)
