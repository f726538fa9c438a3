use Rattle.mpm_script.proofs.LineLemmas.{one_line}
use Rattle.mpm_script.proofs.line_reader.one_line.Goals as goal

pub returns : goal.returns
returns c = one_line
