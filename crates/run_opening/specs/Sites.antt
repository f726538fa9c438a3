-- Why the files of a store make no site.
use Rattle.file_table.specs.Load.{MayLoad}
use Rattle.mpm_base.specs.declared.store.File.{File}
use Rattle.mpm_config.specs.Config.{Configuration}
use Rattle.restart_control.specs.Reload.{order_of}
use Rattle.std.specs.Prelude.{◌⊎◌, ℕ, List, Err}
use Rattle.file_table.specs.declared.load_fault.LoadFault.TheVariants as fault

-- the files are too many for a site, and the name is that of the first root of a host with whose files they are
pub record HasTooMany (files : List File) (c : Configuration) (name : List ℕ) : Type 0 where
  pub many : MayLoad (order_of c) files (Err (fault.TooMany name))

-- the file of that name is the first one that is too large, or with which the files together are
pub record HasTooLarge (files : List File) (c : Configuration) (name : List ℕ) : Type 0 where
  pub size : ℕ
  pub large : MayLoad (order_of c) files (Err (fault.TooLarge name size))

-- the files make no site by the configuration, for the folder or the file of that name
abbrev pub IsSiteRefusedOf : List File → Configuration → List ℕ → Type 0
IsSiteRefusedOf files c name = HasTooMany files c name ⊎ HasTooLarge files c name
