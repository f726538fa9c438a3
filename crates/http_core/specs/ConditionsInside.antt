-- The marks of a file, as they are looked up.
use Rattle.std.specs.Prelude.{◌≡◌, ℕ, Bool, false, List, Option, Some, None, option_map, if◌then◌else◌}
use Rattle.mpm_base.specs.declared.store.File.{File}
use Rattle.file_table.specs.Tag.{tag_of}
use Rattle.file_table.specs.declared.marks.Marks.{Marks}
use Rattle.http_core.specs.Conditions.{is_exactly}
use Rattle.http_core.specs.declared.conditions.FileMarks.{FileMarks}

-- these are the marks of the file: its tag, where files have tags, and the second of its last change, where times count
pub record AreMarksOf (m : Marks) (file : Option File) (marks : FileMarks) : Type 0 where
  pub tag_is : option_map (λ tag. tag.now) marks.tag ≡ (if m.tags then option_map (λ (f : File). tag_of f.bytes) file else None)
  pub second_is : marks.second ≡ (if m.times then option_map (λ (f : File). f.second) file else None)

-- there is a tag, and the value is exactly that
abbrev pub is_that_tag : Option (List ℕ) → Option (List ℕ) → Bool
is_that_tag None value = false
is_that_tag (Some tag) value = is_exactly tag value
