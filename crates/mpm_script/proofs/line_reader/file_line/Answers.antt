use Rattle.mpm_script.proofs.LineLemmas.{behind_filed}
use Rattle.mpm_script.proofs.line_reader.file_line.Goals as goal

pub returns-in-None : goal.returns-in-None
returns-in-None c = λ name bytes h.
    let none = rw c.in-None.is at c.in_ok-bytes.ensures in
    none bytes (behind_filed c.args.text.now c.in-Some.name.now name c.in-Some.spelling.now bytes c.in-Some.ensures.some h)
