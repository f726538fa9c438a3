use Rattle.mpm_script.proofs.SequenceLemmas.{no_line_first}
use Rattle.mpm_script.proofs.script.next_line.Goals as goal

pub returns-in-None : goal.returns-in-None
returns-in-None c =
    no_line_first c.args.bytes.now c.in-Some.text.now c.in-Some.rest.now c.in-Some.ensures.some (rw c.in-None.is at c.in_ok-line.ensures)
