use Rattle.std.proofs.Common.{◌++◌, ap, ◌∙◌}
use Rattle.mpm_script.specs.Load.{load_connection}
use Rattle.mpm_script.proofs.LoadLemmas.{connections_more}
use Rattle.mpm_script.proofs.load.add_connections.Goals as goal

pub loop-number-preserved : goal.loop-number-preserved
loop-number-preserved c =
    c.in_ok-add_connection.ensures
    ∙ ap (λ lines. lines ++ load_connection c.loop-number.number) c.loop-number.invariant
    ∙ connections_more c.args.script.now c.loop-number.number
