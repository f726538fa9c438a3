use Rattle.mpm_base.specs.declared.script_line.ClientAct.TheVariants as act
use Rattle.mpm_script.proofs.LineLemmas.{behind_client}
use Rattle.mpm_script.proofs.line_reader.fail_line.Goals as goal

pub returns-in_err-which-clause-none : goal.returns-in_err-which-clause-none
returns-in_err-which-clause-none c =
    rw c.from_residual-in_err-which.ensures (λ name which n h.
    c.in_err-which.ensures.none which n
    (behind_client c.args.text.now c.in_ok-name.name.now name c.in_ok-name.behind.now (act.Fail which n) c.in_ok-name.ensures.some h))
