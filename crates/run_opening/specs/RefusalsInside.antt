-- What the parts that refuse a command answer.
use Rattle.mpm_base.specs.Sink.{SinkSeen}
use Rattle.run_opening.specs.declared.config_reading.NoConfig.{NoConfig}
use Rattle.run_report.specs.Texts.{config_refused, store_fault}
use Rattle.run_report.specs.Written.{WritesText}
use Rattle.std.specs.Prelude.{◌≡◌, ℕ, List, Option, None, Some}
use Rattle.run_opening.specs.declared.config_reading.NoConfig.TheVariants as no

-- a run is refused: this number is shown, and the text was written
pub record RefusesRun (sink sink' : SinkSeen) (shown : Option ℕ) (text : List ℕ) (shown' : Option ℕ) : Type 0 where
  pub shows : shown' ≡ shown
  pub writes : WritesText sink sink' text

-- a command is refused with the exit status, as there is no configuration of the file of that name
abbrev pub RefusesConfigOf : SinkSeen → SinkSeen → List ℕ → NoConfig → ℕ → Option ℕ → Type 0
RefusesConfigOf sink sink' name (no.Refused why number) status shown =
    (status ≡ 1) × RefusesRun sink sink' (Some number) (config_refused number why) shown
RefusesConfigOf sink sink' name no.Missing status shown = (status ≡ 3) × RefusesRun sink sink' (Some 0) (store_fault name) shown
RefusesConfigOf sink sink' name no.Failed status shown = (status ≡ 3) × RefusesRun sink sink' None (store_fault name) shown
RefusesConfigOf sink sink' name no.NoMemory status shown = ⊥
