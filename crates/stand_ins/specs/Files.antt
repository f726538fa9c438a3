-- A list of files by name: what setting and removing one leaves of it, and which files there are at places.
use Rattle.std.specs.Prelude.{ℕ, Bool, not, List, [], ◌∷◌, filter, bytes_eq, if◌then◌else◌, Option, None, Some}
use Rattle.mpm_base.specs.declared.store.Content.{Content}
use Rattle.mpm_base.specs.declared.store.File.{File}
use Rattle.stand_ins.specs.declared.slot.Slot.{Slot}

-- the file is of that name
abbrev pub is_file_named : List ℕ → File → Bool
is_file_named name file = bytes_eq file.name name

-- the file of that name that has this
abbrev pub file_with : List ℕ → Content → File
file_with name content = record { name = name; bytes = content.bytes; second = content.second }

-- the files once the file of that name has this: in its place where there was one, else at the end
abbrev pub with_file : List ℕ → Content → List File → List File
with_file name content [] = file_with name content ∷ []
with_file name content (file ∷ files) =
    if is_file_named name file then file_with file.name content ∷ files else file ∷ with_file name content files

-- the files without that name
abbrev pub without_file : List ℕ → List File → List File
without_file name files = filter (λ file. not (is_file_named name file)) files

-- the file of that name, where there is one, before the others
abbrev pub file_ahead : List ℕ → Option Content → List File → List File
file_ahead name None files = files
file_ahead name (Some content) files = file_with name content ∷ files

-- the files that there are at the places, in order
abbrev pub files_in : List Slot → List File
files_in [] = []
files_in (slot ∷ slots) = file_ahead slot.name slot.content (files_in slots)
