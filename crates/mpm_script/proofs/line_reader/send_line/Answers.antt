use Rattle.mpm_base.specs.declared.script_line.ClientAct.TheVariants as act
use Rattle.mpm_script.proofs.LineLemmas.{behind_client}
use Rattle.mpm_script.proofs.line_reader.send_line.Goals as goal

pub returns-in-None : goal.returns-in-None
returns-in-None c = λ name bytes h.
    let none = rw c.in-None.is at c.in_ok-bytes.ensures in
    none bytes (behind_client c.args.text.now c.in-Some.name.now name c.in-Some.behind.now (act.Send bytes) c.in-Some.ensures.some h)
