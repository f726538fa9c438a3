use Rattle.std.proofs.Common.{ℕ, List, None, Some, Ok, Err, ap, subst, ◌∙◌}
use Rattle.mpm_script.specs.Script.{ScriptIs}
use Rattle.script_run.specs.Scripts.{most_script}
use Rattle.run_opening.specs.RefusalsInside.{RefusesRun}
use Rattle.run_report.specs.Texts.{store_fault}
use Rattle.run_opening.proofs.FileLemmas.{unread-failed, unread-missing}
use Rattle.script_run.proofs.ScriptLemmas.{at-line, plays, reads-script, refused-large, refused-script, unread-script}
use Rattle.script_run.proofs.playing.run_script.Goals as goal

pub returns-in-Ok-read_script : goal.returns-in-Ok-read_script
returns-in-Ok-read_script g c words command =
    let played = c.play_script.ensures in
    plays _ c.in-Ok-read_script.script c.play_script.result.status c.play_script.result.left
    (reads-script _ c.args.name.now c.in-Ok.bytes c.in-Ok-read_script.script c.read_bytes.result command c.read_bytes.ensures c.in-Ok.is
    (subst (λ (bytes : List ℕ). ScriptIs bytes (Ok c.in-Ok-read_script.script)) c.as_slice.ensures c.in-Ok-read_script.ensures.answer))
    played.kept played.opened played.shown played.known played.misconfigured played.site_refused played.silent

pub returns : goal.returns
returns g c words command =
    refused-script _ c.refuse_for.result.status c.refuse_for.result.left c.refuse_for.ensures.scripted c.refuse_for.ensures.known
    (λ eight. at-line _ c.args.name.now c.in-Ok.bytes c.in-Err.fault c.read_bytes.result command c.read_bytes.ensures c.in-Ok.is
    (subst (λ (bytes : List ℕ). ScriptIs bytes (Err c.in-Err.fault)) c.as_slice.ensures c.in-Err.ensures.answer)
    (c.refuse_for.ensures.refused eight)) c.refuse_for.ensures.silent

pub returns-in-Err-Missing : goal.returns-in-Err-Missing
returns-in-Err-Missing g c words command =
    let refused = c.refuse_unread.ensures in
    unread-script _ c.args.name.now c.refuse_unread.result.status c.refuse_unread.result.left command refused.left refused.known
    (λ three. unread-missing _ most_script c.args.name.now c.read_bytes.result c.read_bytes.ensures (c.in-Err-Missing.is ∙ ap Err c.in-Err-Missing.field-0-is)
    (subst (λ (name : List ℕ). RefusesRun (g.K.Sink.seen c.args.out.now) (g.K.Sink.seen c.refuse_unread.new.out) (Some 0) (store_fault name) c.refuse_unread.result.shown)
    c.as_bytes.ensures.value (refused.refused three))) refused.silent

pub returns-in-Err-Failed : goal.returns-in-Err-Failed
returns-in-Err-Failed g c words command =
    let refused = c.refuse_unread-in-Err-Failed.ensures in
    unread-script _ c.args.name.now c.refuse_unread-in-Err-Failed.result.status c.refuse_unread-in-Err-Failed.result.left command refused.left refused.known
    (λ three. unread-failed _ most_script c.args.name.now c.read_bytes.result c.read_bytes.ensures (c.in-Err-Failed.is ∙ ap Err c.in-Err-Failed.field-0-is)
    (subst (λ (name : List ℕ). RefusesRun (g.K.Sink.seen c.args.out.now) (g.K.Sink.seen c.refuse_unread-in-Err-Failed.new.out) None (store_fault name) c.refuse_unread-in-Err-Failed.result.shown)
    c.as_bytes-in-Err-Failed.ensures.value (refused.refused three))) refused.silent

pub returns-in-Err-Large : goal.returns-in-Err-Large
returns-in-Err-Large g c words command =
    let refused = c.refuse_script.ensures in
    refused-script _ c.refuse_script.result.status c.refuse_script.result.left refused.left refused.known
    (λ eight. refused-large _ c.args.name.now _ c.read_bytes.result command c.read_bytes.ensures (c.in-Err-Large.is ∙ ap Err c.in-Err-Large.field-0-is)
    (refused.refused eight)) refused.silent
