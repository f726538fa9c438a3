-- Where a new generation has no site.
use Rattle.std.proofs.Common.{◌≡◌, ℕ, true, List, Option, Err, IfSome, refl, sym, subst, ◌∙◌, arith}
use Rattle.mpm_base.specs.Count.{NeverFalls, Rises}
use Rattle.mpm_base.specs.Store.{Renews, StoreSeen, StoreTold}
use Rattle.mpm_config.specs.Config.{Configuration, with_limits}
use Rattle.mpm_config.specs.Reading.{ConfigAndWarnings}
use Rattle.file_table.specs.Load.{LeavesStore, MayLoad, is_limit}
use Rattle.file_table.specs.Site.{SeenSite}
use Rattle.file_table.specs.declared.load_fault.LoadFault.{LoadFault}
use Rattle.file_table.specs.declared.load_fault.LoadFault.TheVariants as load
use Rattle.restart_control.specs.Reload.{HasAccepted, HasCause, IsNextConfig, LacksSite, order_of}
use Rattle.restart_control.specs.ReloadInside.{StoreStays, fault_for}

-- a count that rose behind two turns in which it didn't fall
rises_behind : (a b c d : ℕ) → NeverFalls a b → NeverFalls b c → Rises c d → Rises a d
rises_behind a b c d first second third =
    (omega (arith, first, second, third.0), λ less. grind (arith, less, first, second, third.0, third.1))

-- a configuration that was read is, with the limits of the running one, that of a new generation
next_config : (told told' : Option StoreTold) (name : List ℕ) (running c : Configuration) (read : ConfigAndWarnings) → told' ≡ told
    → HasAccepted told name read → c ≡ with_limits running read.config → IsNextConfig told' name running c
next_config told told' name running c read same has carried =
    subst (λ (t : Option StoreTold). IsNextConfig t name running c) (sym same) (record { read = read; has = has; carried = carried })

-- the files of a new generation are more, or larger, than a site takes
no_site : (name : List ℕ) (running c : Configuration) (read : ConfigAndWarnings) (s0 s1 s2 s3 : StoreSeen) (fault : LoadFault) → Renews s0 s1 → StoreStays s1 s2
    → HasAccepted s1.told name read → c ≡ with_limits running read.config → s3.told ≡ s2.told → Rises s2.counts.refusals s3.counts.refusals
    → is_limit fault ≡ true → IfSome s2.told (λ t. MayLoad (order_of c) t.files (Err fault))
    → LacksSite s3.told name running s0.counts s3.counts fault c.root
no_site name running c read s0 s1 s2 s3 fault renews stays has carried same rises limit may = record {
  config = c;
  root_is = refl;
  has = next_config s1.told s3.told name running c read (same ∙ stays.told) has carried;
  limit = limit;
  refused = rises_behind s0.counts.refusals s1.counts.refusals s2.counts.refusals s3.counts.refusals renews.refusals stays.refusals rises;
  lacks = subst (λ (t : Option StoreTold). IfSome t (λ t. MayLoad (order_of c) t.files (Err fault))) (sym same) may;
}

-- why a restart makes no plan, where its configuration was read and its site wasn't loaded
pub no_plan : (name : List ℕ) (running c : Configuration) (read : ConfigAndWarnings) (s0 s1 s2 s3 : StoreSeen) (fault : LoadFault) → Renews s0 s1 → StoreStays s1 s2
    → HasAccepted s1.told name read → c ≡ with_limits running read.config → LeavesStore {T = SeenSite} s2 s3 (Err fault)
    → IfSome s2.told (λ t. MayLoad (order_of c) t.files (Err fault))
    → HasCause s3.told name running s0.counts s3.counts (fault_for fault c.root)
no_plan name running c read s0 s1 s2 s3 load.StoreFault renews stays has carried leaves may =
    rises_behind s0.counts.faults s1.counts.faults s2.counts.faults s3.counts.faults renews.faults stays.faults leaves.faults
no_plan name running c read s0 s1 s2 s3 (load.TooMany named) renews stays has carried leaves may =
    no_site name running c read s0 s1 s2 s3 (load.TooMany named) renews stays has carried leaves.told leaves.refusals refl may
no_plan name running c read s0 s1 s2 s3 (load.TooLarge file size) renews stays has carried leaves may =
    no_site name running c read s0 s1 s2 s3 (load.TooLarge file size) renews stays has carried leaves.told leaves.refusals refl may
no_plan name running c read s0 s1 s2 s3 load.NoMemory renews stays has carried leaves may = tt
