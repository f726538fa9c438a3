-- What the parts that read a configuration answer.
use Rattle.mpm_base.specs.declared.store.StoreFault.{StoreFault}
use Rattle.mpm_config.specs.Config.{Configuration}
use Rattle.mpm_config.specs.Reading.{config_of}
use Rattle.mpm_config.specs.declared.fault.ConfFault.{ConfFault}
use Rattle.run_opening.specs.Configured.{config_fault, warnings_of, with_notices}
use Rattle.run_opening.specs.declared.config_reading.NoConfig.{NoConfig}
use Rattle.run_report.specs.declared.texts.ConfigRefusal.TheVariants.{BadValue}
use Rattle.std.specs.Prelude.{◌≡◌, ℕ, List, Result, Ok, Err, ⊤}
use Rattle.mpm_base.specs.declared.store.StoreFault.TheVariants as store
use Rattle.mpm_config.specs.declared.fault.ConfFault.TheVariants as conf
use Rattle.run_opening.specs.declared.config_reading.NoConfig.TheVariants as no

-- there is no configuration for that fault of its text
abbrev pub IsRefusalFor : ConfFault → NoConfig → Type 0
IsRefusalFor fault (no.Refused why number) = fault ≡ config_fault why number
IsRefusalFor fault no.NoMemory = fault ≡ conf.NoMemory
IsRefusalFor fault no.Missing = ⊥
IsRefusalFor fault no.Failed = ⊥

-- the text is accepted as this configuration, whose warnings these are
pub record IsAccepted (text : List ℕ) (c : Configuration) (told : List ℕ) : Type 0 where
  pub accepted : config_of text ≡ Ok (with_notices c)
  pub told_is : told ≡ warnings_of c

-- the configuration of a text, or why there is none; memory may lack for each
abbrev pub IsConfigOf : List ℕ → Result (Configuration × List ℕ) NoConfig → Type 0
IsConfigOf text (Ok read) = IsAccepted text read.0 read.1
IsConfigOf text (Err (no.Refused why number)) = config_of text ≡ Err (config_fault why number)
IsConfigOf text (Err no.NoMemory) = ⊤
IsConfigOf text (Err no.Missing) = ⊥
IsConfigOf text (Err no.Failed) = ⊥

-- the same of what a store answered
abbrev pub IsConfigFrom : Result (List ℕ) StoreFault → Result (Configuration × List ℕ) NoConfig → Type 0
IsConfigFrom (Ok text) result = IsConfigOf text result
IsConfigFrom (Err store.Missing) result = result ≡ Err no.Missing
IsConfigFrom (Err store.Failed) result = result ≡ Err no.Failed
IsConfigFrom (Err (store.Large size)) result = result ≡ Err (no.Refused BadValue 0)
IsConfigFrom (Err store.Many) result = result ≡ Err no.NoMemory
IsConfigFrom (Err store.NoMemory) result = result ≡ Err no.NoMemory
