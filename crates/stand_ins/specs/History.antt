-- A history of a folder of files: what its changes leave, and which editions ended in it.
use Rattle.std.specs.Prelude.{List, []}
use Rattle.mpm_base.specs.Store.{StoreTold, after_renew}
use Rattle.mpm_base.specs.declared.store.File.{File}

-- the files of each edition that ended, in their order, and those that all changes leave
pub record SeenHistory : Type 0 where
  pub past : List (List File)
  pub files : List File

-- no change was made, and no edition ended
abbrev pub no_history : SeenHistory
no_history = record { past = []; files = [] }

-- what a store of these editions tells: that it is at the first one, or that it has no file where there is none
abbrev pub told_past : List (List File) → StoreTold
told_past editions = after_renew (record { files = []; later = editions })
