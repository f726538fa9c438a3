use Rattle.std.proofs.Common.{[], ◌∷◌, ◌++◌, ap, ◌∙◌}
use Rattle.mpm_script.specs.Load.{load_file}
use Rattle.mpm_base.specs.declared.script_line.ScriptLine.{ScriptLine}
use Rattle.mpm_script.proofs.LoadLemmas.{files_more}
use Rattle.mpm_script.proofs.load.add_files.Goals as goal

pub loop-number-preserved : goal.loop-number-preserved
loop-number-preserved c =
    c.in_ok-add.ensures.ok
    ∙ ap (λ (line : ScriptLine). c.loop-number.script ++ line ∷ []) c.in_ok-file_line.ensures
    ∙ ap (λ lines. lines ++ load_file c.loop-number.number ∷ []) c.loop-number.invariant
    ∙ files_more c.args.script.now c.loop-number.number
