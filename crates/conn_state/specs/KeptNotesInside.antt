-- What a connection keeps of its responses.
use Rattle.std.specs.Prelude.{List, map}
use Rattle.mpm_base.specs.declared.note.Note.{Note}

-- the notes of a log of them
abbrev pub logged_notes : List (Note × Unit {0}) → List Note
logged_notes items = map (λ (item : Note × Unit {0}). item.0) items
