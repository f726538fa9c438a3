-- A call of the top call: its words, its store and its output before it and after it; which file it reads, which configuration that is, and
-- which site it has.
use Rattle.file_table.specs.Load.{IsWithinLimits}
use Rattle.file_table.specs.Site.{IsSiteOf, SeenSite}
use Rattle.mpm_base.specs.Count.{Rises}
use Rattle.mpm_base.specs.Sink.{SinkSeen}
use Rattle.mpm_base.specs.Store.{StoreSeen, bytes_of}
use Rattle.mpm_config.specs.Config.{Configuration}
use Rattle.restart_control.specs.Reload.{most_config, order_of}
use Rattle.run_opening.specs.Configured.{Configures}
use Rattle.run_opening.specs.Sites.{IsSiteRefusedOf}
use Rattle.run_report.specs.Texts.{store_fault}
use Rattle.run_report.specs.Written.{WritesText}
use Rattle.std.specs.Prelude.{◌≡◌, ℕ, ◌<◌, ◌≤◌, ◌⊎◌, List, length, Option, Some, None, IfSome}

-- a call of `run`: its words, what is seen of the store and of the output before it and after it, and the number it shows
pub record Call : Type 0 where
  pub words : List (List ℕ)
  pub store : StoreSeen
  pub store' : StoreSeen
  pub sink : SinkSeen
  pub sink' : SinkSeen
  pub shown : Option ℕ

-- a call of `run`, of its parts
abbrev pub seen_call : List (List ℕ) → StoreSeen → StoreSeen → SinkSeen → SinkSeen → Option ℕ → Call
seen_call words store store' sink sink' shown =
    record { words = words; store = store; store' = store'; sink = sink; sink' = sink'; shown = shown }

-- the files that the store tells are as they were
abbrev pub KeepsFiles : Call → Type 0
KeepsFiles call = call.store'.told ≡ call.store.told

-- the files of the store are as they were, where it tells them, and one of that name has these bytes, which are not too many
pub record HasFile (most : ℕ) (call : Call) (name bytes : List ℕ) : Type 0 where
  pub kept : KeepsFiles call
  pub few : length bytes ≤ most
  pub file : IfSome call.store.told (λ t. bytes_of name t.files ≡ Some bytes)

-- there is no file of that name: the store counted a refusal, and where it tells its files it has none
pub record LacksFile (call : Call) (name : List ℕ) : Type 0 where
  pub refused : Rises call.store.counts.refusals call.store'.counts.refusals
  pub none : IfSome call.store.told (λ t. bytes_of name t.files ≡ None)

-- a call of the store failed, as it counted
abbrev pub StoreFailed : Call → Type 0
StoreFailed call = Rises call.store.counts.faults call.store'.counts.faults

-- the file is missing, which is shown as place 0, or a call of the store failed
abbrev pub IsUnread : Call → List ℕ → Type 0
IsUnread call name = ((call.shown ≡ Some 0) × LacksFile call name) ⊎ ((call.shown ≡ None) × StoreFailed call)

-- the file could not be read, and that was written; the files of the store are as they were
pub record IsFileUnread (call : Call) (name : List ℕ) : Type 0 where
  pub kept : KeepsFiles call
  pub cause : IsUnread call name
  pub text : WritesText call.sink call.sink' (store_fault name)

-- the file is too large: the store counted a refusal, and where it tells its files that one is
pub record IsRefusedAsLarge (most : ℕ) (call : Call) (name : List ℕ) : Type 0 where
  pub refused : Rises call.store.counts.refusals call.store'.counts.refusals
  pub large : IfSome call.store.told (λ t. (bytes : List ℕ) × (bytes_of name t.files ≡ Some bytes) × (most < length bytes))

-- ## The configuration and the site of a file

-- the configuration of that name in the store is accepted as this one
pub record HasConfigAccepted (call : Call) (name : List ℕ) (c : Configuration) : Type 0 where
  pub bytes : List ℕ
  pub has : HasFile most_config call name bytes
  pub accepted : Configures bytes c

-- the same of the store as it was before the call, whatever became of its files since
pub record HadConfigAccepted (call : Call) (name : List ℕ) (c : Configuration) : Type 0 where
  pub bytes : List ℕ
  pub file : IfSome call.store.told (λ t. bytes_of name t.files ≡ Some bytes)
  pub accepted : Configures bytes c

-- the site is within its limits, and where the store tells its files it is what they make of it by the configuration
pub record LoadsSite (call : Call) (c : Configuration) (site : SeenSite) : Type 0 where
  pub within : IsWithinLimits site
  pub is_site : IfSome call.store.told (λ t. IsSiteOf (order_of c) t.files site)

-- there is no site by the configuration, for the folder or the file of that name: the store counted a refusal, and where it tells its
-- files they make none
pub record HasSiteRefused (call : Call) (c : Configuration) (name : List ℕ) : Type 0 where
  pub refused : Rises call.store.counts.refusals call.store'.counts.refusals
  pub lacks : IfSome call.store.told (λ t. IsSiteRefusedOf t.files c name)
