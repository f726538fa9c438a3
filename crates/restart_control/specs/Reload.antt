-- What a graceful restart makes of the files of a store: the configuration and the site of a new generation. And why it makes none.
use Rattle.std.specs.Prelude.{◌≡◌, ℕ, ◌<◌, ◌≤◌, ◌⊎◌, true, List, length, map, Option, Some, None, IfSome, Ok, Err, ⊤}
use Rattle.mpm_base.specs.Count.{Rises}
use Rattle.mpm_base.specs.Store.{StoreCounts, StoreTold, bytes_of}
use Rattle.mpm_config.specs.Config.{Configuration, with_limits}
use Rattle.mpm_config.specs.Reading.{ConfigAndWarnings, config_of}
use Rattle.mpm_config.specs.declared.fault.ConfFault.{ConfFault}
use Rattle.mpm_config.specs.declared.fault.ConfFault.TheVariants as conf
use Rattle.file_table.specs.Load.{IsWithinLimits, MayLoad, is_limit}
use Rattle.file_table.specs.Site.{IsSiteOf}
use Rattle.file_table.specs.declared.load_fault.LoadFault.{LoadFault}
use Rattle.file_table.specs.declared.site_order.HostOrder.{HostOrder}
use Rattle.file_table.specs.declared.site_order.SiteOrder.{SiteOrder}
use Rattle.mpm_config.specs.declared.host_conf.HostConf.{HostConf}
use Rattle.restart_control.specs.declared.plan.Plan.{Plan}
use Rattle.restart_control.specs.declared.reload_fault.ReloadFault.{ReloadFault}
use Rattle.restart_control.specs.declared.reload_fault.ReloadFault.TheVariants.{Absent, Conf, Load, StoreFault, NoMemory}

-- ## The plan

-- the greatest size of a configuration, in bytes
abbrev pub most_config : ℕ
most_config = 1048576

-- the text is no larger than a configuration may be, and where the store tells its files it is that of the file of that name
pub record HasText (told : Option StoreTold) (name text : List ℕ) : Type 0 where
  pub few : length text ≤ most_config
  pub file : IfSome told (λ t. bytes_of name t.files ≡ Some text)

-- a text of that name is accepted, and this is what it configures, with what is told of its corrections
pub record HasAccepted (told : Option StoreTold) (name : List ℕ) (read : ConfigAndWarnings) : Type 0 where
  pub text : List ℕ
  pub has : HasText told name text
  pub accepted : config_of text ≡ Ok read

-- the configuration of a new generation: that of the file of that name, with the two limits of the one that the server runs by
pub record IsNextConfig (told : Option StoreTold) (name : List ℕ) (running c : Configuration) : Type 0 where
  pub read : ConfigAndWarnings
  pub has : HasAccepted told name read
  pub carried : c ≡ with_limits running read.config

-- what is wanted of a host: its names, its DocumentRoot, and its DirectoryIndex as the name of the file that stands for a folder
abbrev pub host_order : HostConf → HostOrder
host_order h = record { names = h.names; root = h.root; index = h.index }

-- what a site is made of: the hosts of the configuration, in order, whether ServerStatus is on, which marks FileETag and LastModified give
-- to files, and by what these get their types
abbrev pub order_of : Configuration → SiteOrder
order_of c =
    record {
      hosts = map host_order c.hosts;
      status = c.status;
      marks = record { tags = c.tags; times = c.times };
      types = c.types;
    }

-- the configuration of a new generation, and a site that is within its limits: where the store tells its files, the one that they make
-- by that configuration
pub record IsPlan (told : Option StoreTold) (name : List ℕ) (running : Configuration) (plan : Plan) : Type 0 where
  pub config : IsNextConfig told name running plan.config
  pub within : IsWithinLimits plan.site
  pub site : IfSome told (λ t. IsSiteOf (order_of plan.config) t.files plan.site)

-- ## Why there is none

-- there is no file of that name: the store counted a refusal, and where it tells its files it has none
pub record LacksConfig (told : Option StoreTold) (name : List ℕ) (counts counts' : StoreCounts) : Type 0 where
  pub refused : Rises counts.refusals counts'.refusals
  pub none : IfSome told (λ t. bytes_of name t.files ≡ None)

-- the file of that name is larger than a configuration may be, which is a bad value at 0: the store counted a refusal, and where it
-- tells its files that one is
pub record HasLargeConfig (told : Option StoreTold) (name : List ℕ) (counts counts' : StoreCounts) (fault : ConfFault) : Type 0 where
  pub refused : Rises counts.refusals counts'.refusals
  pub large : IfSome told (λ t. (text : List ℕ) × (bytes_of name t.files ≡ Some text) × (most_config < length text))
  pub fault_is : fault ≡ conf.BadValue 0

-- a text of that name is refused for this
pub record HasBadConfig (told : Option StoreTold) (name : List ℕ) (fault : ConfFault) : Type 0 where
  pub text : List ℕ
  pub has : HasText told name text
  pub refused : config_of text ≡ Err fault

-- the file of that name is refused for this
abbrev pub RefusesConfig : Option StoreTold → List ℕ → StoreCounts → StoreCounts → ConfFault → Type 0
RefusesConfig told name counts counts' fault = HasLargeConfig told name counts counts' fault ⊎ HasBadConfig told name fault

-- by the configuration of the new generation, whose DocumentRoot is that root, there is no site: its files are more, or larger, than one
-- takes. The store counted a refusal, and where it tells its files they are so
pub record LacksSite (told : Option StoreTold) (name : List ℕ) (running : Configuration) (counts counts' : StoreCounts) (fault : LoadFault)
    (root : List ℕ) : Type 0 where
  pub config : Configuration
  pub root_is : root ≡ config.root
  pub has : IsNextConfig told name running config
  pub limit : is_limit fault ≡ true
  pub refused : Rises counts.refusals counts'.refusals
  pub lacks : IfSome told (λ t. MayLoad (order_of config) t.files (Err fault))

-- why a restart makes no plan, where the store tells these files and counted from the one to the other; memory may lack at any time
abbrev pub HasCause : Option StoreTold → List ℕ → Configuration → StoreCounts → StoreCounts → ReloadFault → Type 0
HasCause told name running counts counts' Absent = LacksConfig told name counts counts'
HasCause told name running counts counts' (Conf fault) = RefusesConfig told name counts counts' fault
HasCause told name running counts counts' (Load fault root) = LacksSite told name running counts counts' fault root
HasCause told name running counts counts' StoreFault = Rises counts.faults counts'.faults
HasCause told name running counts counts' NoMemory = ⊤
