-- What the steps of a restart answer.
use Rattle.std.specs.Prelude.{◌≡◌, ℕ, List, Option, Err, ⊤}
use Rattle.mpm_base.specs.Count.{NeverFalls, Rises}
use Rattle.mpm_base.specs.Store.{StoreCounts, StoreSeen, StoreTold}
use Rattle.mpm_config.specs.Reading.{config_of}
use Rattle.file_table.specs.declared.load_fault.LoadFault.{LoadFault}
use Rattle.file_table.specs.declared.load_fault.LoadFault.TheVariants as load
use Rattle.restart_control.specs.Reload.{LacksConfig, RefusesConfig}
use Rattle.restart_control.specs.declared.reload_fault.ReloadFault.{ReloadFault}
use Rattle.restart_control.specs.declared.reload_fault.ReloadFault.TheVariants.{Absent, Conf, Load, StoreFault, NoMemory}

-- the text configures nothing, for this; memory may lack
abbrev pub IsNoConfig : List ℕ → ReloadFault → Type 0
IsNoConfig text Absent = ⊥
IsNoConfig text (Conf fault) = config_of text ≡ Err fault
IsNoConfig text (Load fault root) = ⊥
IsNoConfig text StoreFault = ⊥
IsNoConfig text NoMemory = ⊤

-- why the file of that name isn't read, or configures nothing
abbrev pub IsUnread : Option StoreTold → List ℕ → StoreCounts → StoreCounts → ReloadFault → Type 0
IsUnread told name counts counts' Absent = LacksConfig told name counts counts'
IsUnread told name counts counts' (Conf fault) = RefusesConfig told name counts counts' fault
IsUnread told name counts counts' (Load fault root) = ⊥
IsUnread told name counts counts' StoreFault = Rises counts.faults counts'.faults
IsUnread told name counts counts' NoMemory = ⊤

-- the fault of a restart for that of its site, whose folder is that root
abbrev pub fault_for : LoadFault → List ℕ → ReloadFault
fault_for load.StoreFault root = StoreFault
fault_for (load.TooMany named) root = Load (load.TooMany named) root
fault_for (load.TooLarge name size) root = Load (load.TooLarge name size) root
fault_for load.NoMemory root = NoMemory

-- the store tells what it told, and no count of it fell
pub record StoreStays (old new : StoreSeen) : Type 0 where
  pub told : new.told ≡ old.told
  pub faults : NeverFalls old.counts.faults new.counts.faults
  pub refusals : NeverFalls old.counts.refusals new.counts.refusals
