-- The order of names: by their bytes, the first that differs decides, and a name goes before those that it begins.
use Rattle.std.specs.Prelude.{ℕ, Bool, List}
use Rattle.std.specs.Cmp.Lexicographic.{slice_cmp}
use Rattle.std.specs.List.Sorted.{IsSortedByKey}
use Rattle.std.specs.Ordering.{is_lt, nat_cmp}
use Rattle.mpm_base.specs.declared.store.File.{File}

-- the files are in the order of their names
abbrev pub IsInOrder : List File → Type 0
IsInOrder files = IsSortedByKey (λ (file : File). file.name) (slice_cmp nat_cmp) files

-- the first name goes before the second
abbrev pub name_goes_before : List ℕ → List ℕ → Bool
name_goes_before name other = is_lt (slice_cmp nat_cmp name other)
