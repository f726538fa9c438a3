-- What a draft of a script's editions keeps: the lines of the configuration are put together before its file is set.
use Rattle.std.specs.Prelude.{◌≡◌, ℕ, Bool, true, false, List, [], ◌∷◌, drop}
use Rattle.mpm_base.specs.declared.store.File.{File}
use Rattle.script_front.specs.Editions.{Filed, conf_file}

-- the editions that ended, the configuration, and the moment with the other files
pub record SeenDraft : Type 0 where
  pub past : List (List File)
  pub conf : List ℕ
  pub filed : Filed

-- the configuration's file stands before the others, and has the configuration unless that changed since
pub record IsDraft (files : List File) (conf : List ℕ) (changed : Bool) : Type 0 where
  pub kept : List ℕ
  pub is : files ≡ conf_file kept ∷ drop 1 files
  pub same : changed ≡ false → kept ≡ conf
