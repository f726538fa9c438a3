-- The responses of a connection.
use Rattle.std.specs.Prelude.{ℕ, Bool, false, List, fold, map}
use Rattle.mpm_base.specs.declared.note.Note.{Note}

-- the last of the notes says that it is the last response; there may be no note
abbrev pub says_last : List Note → Bool
says_last notes = fold (λ before note. note.last) false notes

-- the codes of the responses, in their order
abbrev pub codes_in : List Note → List ℕ
codes_in notes = map (λ (note : Note). note.code) notes
