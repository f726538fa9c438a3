-- What is read of a configuration.
use Rattle.std.proofs.Common.{◌≡◌, inl, inr, ℕ, ◌⊎◌, List, Result, Ok, Err, refl, ap, sym, subst, ◌∙◌}
use Rattle.mpm_base.specs.Store.{ReadsBytes, StoreSeen}
use Rattle.mpm_base.specs.declared.store.StoreFault.{StoreFault}
use Rattle.mpm_base.specs.declared.store.StoreFault.TheVariants as store
use Rattle.mpm_config.specs.Config.{Configuration}
use Rattle.mpm_config.specs.Correction.{notices}
use Rattle.mpm_config.specs.Reading.{ConfigAndWarnings, Refuses as refuses, and_then, config_of, configuration_of, text_settings}
use Rattle.mpm_config.specs.Settings.{Settings}
use Rattle.mpm_config.specs.Warning.{Notice}
use Rattle.mpm_config.specs.declared.fault.ConfFault.{ConfFault}
use Rattle.run_opening.specs.Calls.{Call, HadConfigAccepted, HasConfigAccepted, KeepsFiles}
use Rattle.run_opening.specs.Configured.{config_fault, warnings_of}
use Rattle.restart_control.specs.Reload.{most_config}
use Rattle.run_opening.specs.ConfiguredInside.{IsAccepted, IsConfigFrom, IsConfigOf, IsRefusalFor}
use Rattle.run_opening.specs.declared.config_reading.NoConfig.{NoConfig}
use Rattle.run_opening.specs.declared.config_reading.NoConfig.TheVariants as no
use Rattle.run_report.specs.declared.texts.ConfigRefusal.{ConfigRefusal}
use Rattle.run_report.specs.declared.texts.ConfigRefusal.TheVariants.{NotText, UnknownDirective, BadValue, BadSection, Unclosed, TooDeep}
use Rattle.run_opening.proofs.FileLemmas.{has_file, is_file}

-- ## Warnings

-- the warnings of settings are those of their numbers
settings-notices : (r : Result Settings ConfFault) (c : Configuration) (w : List Notice)
    → and_then r (λ s. Ok (configuration_of s)) ≡ Ok (record { config = c; warnings = w }) → w ≡ notices c.written
settings-notices (Ok s) c w is =
    let same : configuration_of s ≡ record { config = c; warnings = w } = cc is in
    sym (ap (λ (r : ConfigAndWarnings). r.warnings) same) ∙ ap (λ (r : ConfigAndWarnings). notices r.config.written) same
settings-notices (Err e) c w is = absurd (cc is)

-- a configuration that was read has the warnings of its numbers
pub read-notices : (text : List ℕ) (c : Configuration) (w : List Notice) → config_of text ≡ Ok (record { config = c; warnings = w })
    → w ≡ notices c.written
read-notices text c w is = settings-notices (text_settings text) c w is

-- so it is accepted
pub accepts : (text told : List ℕ) (c : Configuration) (w : List Notice) → config_of text ≡ Ok (record { config = c; warnings = w })
    → (w ≡ notices c.written → told ≡ warnings_of c) → IsAccepted text c told
accepts text told c w is told_is =
    let same = read-notices text c w is in
    record {
      accepted = is ∙ ap (λ (x : List Notice). let r : ConfigAndWarnings = record { config = c; warnings = x } in Ok r) same;
      told_is = told_is same;
    }

-- ## Refusals

refuses-config : (text : List ℕ) (why : ConfigRefusal) (number : ℕ) → refuses (config_of text) (config_fault why number)
    → config_of text ≡ Err (config_fault why number)
refuses-config text NotText number is = is
refuses-config text UnknownDirective number is = is
refuses-config text BadValue number is = is
refuses-config text BadSection number is = is
refuses-config text Unclosed number is = is
refuses-config text TooDeep number is = is

-- a text that was refused for the fault has no configuration for that
pub no-config : (text : List ℕ) (fault : ConfFault) (why : NoConfig) → refuses (config_of text) fault → IsRefusalFor fault why
    → IsConfigOf text (Err why)
no-config text fault (no.Refused why number) refused is =
    refuses-config text why number (subst (λ (f : ConfFault). refuses (config_of text) f) is refused)
no-config text fault no.NoMemory refused is = tt
no-config text fault no.Missing refused is = is
no-config text fault no.Failed refused is = is

-- ## What the store answered

-- a configuration comes of a text
pub from-ok : (answer : Result (List ℕ) StoreFault) (read : Configuration × List ℕ) → IsConfigFrom answer (Ok read)
    → (text : List ℕ) × (answer ≡ Ok text) × IsAccepted text read.0 read.1
from-ok (Ok text) read is = (text, refl, is)
from-ok (Err store.Missing) read is = absurd (cc is)
from-ok (Err store.Failed) read is = absurd (cc is)
from-ok (Err (store.Large size)) read is = absurd (cc is)
from-ok (Err store.Many) read is = absurd (cc is)
from-ok (Err store.NoMemory) read is = absurd (cc is)

-- the file is missing
pub from-missing : (answer : Result (List ℕ) StoreFault) → IsConfigFrom answer (Err no.Missing) → answer ≡ Err store.Missing
from-missing (Ok text) is = absurd is
from-missing (Err store.Missing) is = refl
from-missing (Err store.Failed) is = absurd (cc is)
from-missing (Err (store.Large size)) is = absurd (cc is)
from-missing (Err store.Many) is = absurd (cc is)
from-missing (Err store.NoMemory) is = absurd (cc is)

-- the call failed
pub from-failed : (answer : Result (List ℕ) StoreFault) → IsConfigFrom answer (Err no.Failed) → answer ≡ Err store.Failed
from-failed (Ok text) is = absurd is
from-failed (Err store.Missing) is = absurd (cc is)
from-failed (Err store.Failed) is = refl
from-failed (Err (store.Large size)) is = absurd (cc is)
from-failed (Err store.Many) is = absurd (cc is)
from-failed (Err store.NoMemory) is = absurd (cc is)

-- a text was refused
pub record RefusesText (answer : Result (List ℕ) StoreFault) (why : ConfigRefusal) (number : ℕ) : Type 0 where
  pub text : List ℕ
  pub is : answer ≡ Ok text
  pub refused : config_of text ≡ Err (config_fault why number)

-- or the file was too large
pub record RefusesSize (answer : Result (List ℕ) StoreFault) (why : ConfigRefusal) (number : ℕ) : Type 0 where
  pub size : ℕ
  pub is : answer ≡ Err (store.Large size)
  pub why_is : why ≡ BadValue
  pub number_is : number ≡ 0

-- one of these it was
pub from-refused : (answer : Result (List ℕ) StoreFault) (why : ConfigRefusal) (number : ℕ) → IsConfigFrom answer (Err (no.Refused why number))
    → RefusesText answer why number ⊎ RefusesSize answer why number
from-refused (Ok text) why number is = inl (record { text = text; is = refl; refused = is })
from-refused (Err store.Missing) why number is = absurd (cc is)
from-refused (Err store.Failed) why number is = absurd (cc is)
from-refused (Err (store.Large size)) why number is = inr (record { size = size; is = refl; why_is = cc is; number_is = cc is })
from-refused (Err store.Many) why number is = absurd (cc is)
from-refused (Err store.NoMemory) why number is = absurd (cc is)

-- ## A configuration that is accepted

-- it is accepted, where the store tells on what it told after it was read
pub has-accepted : (call : Call) (read : StoreSeen) (name : List ℕ) (answer : Result (List ℕ) StoreFault) (conf : Configuration × List ℕ)
    → ReadsBytes call.store read name most_config answer → call.store'.told ≡ read.told → IsConfigFrom answer (Ok conf) → HasConfigAccepted call name conf.0
has-accepted call read name answer conf reads stays is =
    let text = from-ok answer conf is in
    let has = has_file most_config call read name text.0 answer reads stays text.1 in
    record { bytes = text.0; has = has; accepted = record { few = has.few; accepted = text.2.accepted } }

-- it was accepted, whatever the store tells later
pub had-accepted : (call : Call) (read : StoreSeen) (name : List ℕ) (answer : Result (List ℕ) StoreFault) (conf : Configuration × List ℕ)
    → ReadsBytes call.store read name most_config answer → IsConfigFrom answer (Ok conf) → HadConfigAccepted call name conf.0
had-accepted call read name answer conf reads is =
    let text = from-ok answer conf is in
    let how = subst (ReadsBytes call.store read name most_config) text.1 reads in
    record {
      bytes = text.0;
      file = is_file call.store.told name text.0 how.may.1;
      accepted = record { few = how.may.0; accepted = text.2.accepted };
    }

-- so it is accepted where the store still tells what it told
pub accepted-still : (call : Call) (name : List ℕ) (c : Configuration) → KeepsFiles call → HadConfigAccepted call name c → HasConfigAccepted call name c
accepted-still call name c kept had = record {
  bytes = had.bytes;
  has = record { kept = kept; few = had.accepted.few; file = had.file };
  accepted = had.accepted;
}

-- and this is told of its corrections
pub told-of : (answer : Result (List ℕ) StoreFault) (conf : Configuration × List ℕ) → IsConfigFrom answer (Ok conf) → conf.1 ≡ warnings_of conf.0
told-of answer conf is = (from-ok answer conf is).2.told_is
