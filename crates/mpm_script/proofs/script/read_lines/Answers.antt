use Rattle.std.proofs.Common.{[], refl, sym, subst}
use Rattle.mpm_script.specs.Script.{AllAgree, AreLines}
use Rattle.mpm_script.proofs.AgreementLemmas.{agree_push}
use Rattle.mpm_script.proofs.SequenceLemmas.{line_some, lines_push}
use Rattle.mpm_script.proofs.script.read_lines.Goals as goal

pub lines-init : goal.lines-init
lines-init c = record { are_lines = rw c.requires.none refl; agree = rw c.requires.none tt; read = c.requires.read }

pub lines-preserved : goal.lines-preserved
lines-preserved c =
    let next = c.in_ok-behind.ensures.line in
    let all = c.lines.invariant in
    record {
      are_lines = subst (λ lines. AreLines c.args.bytes.now lines c.in_ok-behind.behind.now) (sym next.put)
          (lines_push c.args.bytes.now c.lines.read.script c.lines.rest.now next.line c.in_ok-behind.behind.now all.are_lines next.begins);
      agree = subst (AllAgree []) (sym next.put) (agree_push [] c.lines.read.script next.line all.agree next.agreeing);
      read = c.in_ok-behind.ensures.read;
    }

pub lines-smaller : goal.lines-smaller
lines-smaller c =
    let next = c.in_ok-behind.ensures.line in
    line_some c.lines.rest.now next.line c.in_ok-behind.behind.now next.begins
