use Rattle.std.proofs.Common.{refl, sym, subst}
use Rattle.run_opening.specs.Calls.{seen_call}
use Rattle.script_run.specs.Scripts.{PlaysLines}
use Rattle.script_run.proofs.ScriptLemmas.{makes-load, plays}
use Rattle.script_run.proofs.playing.run_load.Goals as goal

pub returns-in-Ok : goal.returns-in-Ok
returns-in-Ok g c words store command =
    let played = c.play_script.ensures in
    plays _ c.in-Ok.script c.play_script.result.status c.play_script.result.left
    (subst (PlaysLines (seen_call words store store (g.K.Sink.seen c.args.out.now) (g.K.Sink.seen c.play_script.new.out) c.play_script.result.shown))
    (sym c.in-Ok.ensures.lines) (makes-load _ c.args.count command refl))
    played.kept played.opened played.shown played.known played.misconfigured played.site_refused played.silent
