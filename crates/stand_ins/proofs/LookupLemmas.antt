-- What looking up a file answers, before and after one is set or removed.
use Rattle.std.proofs.Common.{◌≡◌, ◌≢◌, ℕ, List, [], ◌∷◌, Some, None, refl, arith}
use Rattle.std.proofs.lemmas.Slice.Eq.{bytes_eq-Decides}
use Rattle.mpm_base.specs.declared.store.Content.{Content}
use Rattle.mpm_base.specs.declared.store.File.{File}
use Rattle.mpm_base.specs.Store.{content_of}
use Rattle.stand_ins.specs.Files.{is_file_named, with_file, without_file}

-- a file that was set has what it was set to
pub content_of_set : (name : List ℕ) (content : Content) (files : List File) → content_of name (with_file name content files) ≡ Some content
content_of_set name content [] = rw ((bytes_eq-Decides name name).1 refl) refl
content_of_set name content (file ∷ files) = grind (arith, content_of_set name content files)

-- and each other keeps its own
pub content_of_other : (other name : List ℕ) (content : Content) (files : List File)
    → other ≢ name → content_of other (with_file name content files) ≡ content_of other files
content_of_other other name content [] ne = grind (arith, bytes_eq-Decides name other)
content_of_other other name content (file ∷ files) ne =
    grind (arith, content_of_other other name content files ne, bytes_eq-Decides file.name name, bytes_eq-Decides file.name other)

-- a file that was removed is none
pub content_of_unset : (name : List ℕ) (files : List File) → content_of name (without_file name files) ≡ None
content_of_unset name [] = refl
content_of_unset name (file ∷ files) = grind (arith, content_of_unset name files)

-- and each other keeps its own
pub content_of_left : (other name : List ℕ) (files : List File)
    → other ≢ name → content_of other (without_file name files) ≡ content_of other files
content_of_left other name [] ne = refl
content_of_left other name (file ∷ files) ne =
    grind (arith, content_of_left other name files ne, bytes_eq-Decides file.name name, bytes_eq-Decides file.name other)
