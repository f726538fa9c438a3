use Rattle.std.proofs.Common.{◌++◌, sym, ap, ◌∙◌}
use Rattle.mpm_script.proofs.LoadLemmas.{repeat_more}
use Rattle.mpm_script.proofs.load.repeated.Goals as goal

pub loop-made-preserved : goal.loop-made-preserved
loop-made-preserved c =
    c.in_ok-add.ensures.ok
    ∙ ap (λ bytes. bytes ++ c.args.text.now) c.loop-made.invariant
    ∙ sym (repeat_more c.loop-made._made c.args.text.now)
