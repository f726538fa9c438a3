use Rattle.std.proofs.Common.{refl, sym}
use Rattle.mpm_script.proofs.AgreementLemmas.{agrees_if}
use Rattle.mpm_script.proofs.read_lines.ReadLines.check.Goals as goal

pub returns-then-is_repeated-clause-err : goal.returns-then-is_repeated-clause-err
returns-then-is_repeated-clause-err c = (refl, sym (c.if-is_repeated.ensures c.args.self.now.script c.requires.names))

pub returns-then-is_backwards-clause-err : goal.returns-then-is_backwards-clause-err
returns-then-is_backwards-clause-err c = (refl, sym (c.if-is_backwards.ensures c.args.self.now.script c.requires.moment))

pub returns-then-is_unknown-clause-err : goal.returns-then-is_unknown-clause-err
returns-then-is_unknown-clause-err c = (refl, sym (c.if-is_unknown.ensures c.args.self.now.script c.requires.names))

pub returns-clause-ok : goal.returns-clause-ok
returns-clause-ok c =
    let before = c.args.self.now.script in
    agrees_if before c.args.line.now (c.if-is_repeated.ensures before c.requires.names) (c.if-is_backwards.ensures before c.requires.moment) (c.if-is_unknown.ensures before c.requires.names)
