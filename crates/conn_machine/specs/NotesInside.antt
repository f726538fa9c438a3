-- What a row keeps of its responses.
use Rattle.std.specs.Prelude.{◌≡◌, ℕ, Bool, List, length, map, min}
use Rattle.mpm_base.specs.Notes.{says_last}
use Rattle.mpm_base.specs.declared.note.Note.{Note}

-- the notes of a log of them
abbrev pub logged_notes : List (Note × Unit {0}) → List Note
logged_notes items = map (λ (item : Note × Unit {0}). item.0) items

-- the count is the number of the notes, as far as it goes, and the bit is what the last of them says
pub record SumsUpNotes (count : ℕ) (bit : Bool) (notes : List Note) : Type 0 where
  pub counted : count ≡ min (length notes) 4294967295
  pub last : bit ≡ says_last notes
