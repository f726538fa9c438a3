use Rattle.std.proofs.Common.{[]}
use Rattle.mpm_script.proofs.FileNameLemmas.{script_named}
use Rattle.mpm_script.proofs.script.file_names_are_texts.Goals as goal

pub returns : goal.returns
returns c = λ bytes lines is. script_named bytes lines [] is.are_lines
