use Rattle.script_run.proofs.ScriptLemmas.{config-refusal, is-played, of-text, site-refusal}
use Rattle.script_run.proofs.playing.play_script.Goals as goal

pub returns-in-Ok-script_config-clause-kept : goal.returns-in-Ok-script_config-clause-kept
returns-in-Ok-script_config-clause-kept g c =
    is-played c.play_site.result.left c.args.script c.in-Ok-script_config.config c.in-Ok-script_config.told (g.K.Sink.seen c.args.out.now)
    (g.K.Sink.seen c.play_site.new.out) c.play_site.result.status c.in-Ok-script_config.ensures.config c.play_site.ensures.kept

pub returns-in-Ok-script_config-clause-site_refused : goal.returns-in-Ok-script_config-clause-site_refused
returns-in-Ok-script_config-clause-site_refused g c nine =
    site-refusal _ _ c.args.script c.in-Ok-script_config.config c.in-Ok-script_config.told c.play_site.result.shown c.in-Ok-script_config.ensures.config
    (c.play_site.ensures.site_refused nine)

pub refuse_unconfigured-requires : goal.refuse_unconfigured-requires
refuse_unconfigured-requires g c = of-text c.args.script c.in-Err.why c.in-Err.ensures.config

pub returns-in-Err-clause-misconfigured : goal.returns-in-Err-clause-misconfigured
returns-in-Err-clause-misconfigured g c one =
    config-refusal _ _ c.args.script c.refuse_unconfigured.result.shown c.in-Err.why c.in-Err.ensures.config (c.refuse_unconfigured.ensures.refused one)
