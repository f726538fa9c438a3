use Rattle.std.proofs.Common.{ℕ, List, subst}
use Rattle.mpm_config.specs.Reading.{Refuses, config_of}
use Rattle.run_opening.proofs.ConfigLemmas.{no-config}
use Rattle.run_opening.proofs.config_reading.config_of.Goals as goal

pub returns-in-Err : goal.returns-in-Err
returns-in-Err c =
    no-config c.args.text.now c.in-Err.fault c.refusal_for.result
    (subst (λ (text : List ℕ). Refuses (config_of text) c.in-Err.fault) c.as_slice.ensures c.in-Err.ensures) c.refusal_for.ensures
