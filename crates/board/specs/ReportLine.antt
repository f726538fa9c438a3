-- The line that a report has for a connection that ended.
use Rattle.std.specs.Prelude.{ℕ, List, [], ◌∷◌, ◌++◌, codes}
use Rattle.std.specs.List.{flat_map}
use Rattle.std.specs.Fmt.{decimal}
use Rattle.mpm_base.specs.declared.conn.Cause.{Cause}
use Rattle.mpm_base.specs.declared.conn.Cause.TheVariants as cause
use Rattle.mpm_base.specs.declared.conn.Tail.{Tail}
use Rattle.mpm_base.specs.declared.conn.Tail.TheVariants as tail
use Rattle.mpm_base.specs.Notes.{codes_in}
use Rattle.conn_state.specs.Answered.{SeenEnded}

-- the name of a cause
abbrev pub cause_word : Cause → List ℕ
cause_word cause.ClientDone = codes "ClientDone"
cause_word cause.LastSent = codes "LastSent"
cause_word cause.KeepAliveLate = codes "KeepAliveLate"
cause_word cause.ReadLate = codes "ReadLate"
cause_word cause.WriteLate = codes "WriteLate"
cause_word cause.Retiring = codes "Retiring"
cause_word cause.LinkFailed = codes "LinkFailed"
cause_word cause.Stopped = codes "Stopped"
cause_word cause.NoMemory = codes "NoMemory"

-- the name of a tail
abbrev pub tail_word : Tail → List ℕ
tail_word tail.Direct = codes "Direct"
tail_word tail.Drained = codes "Drained"
tail_word tail.Sated = codes "Sated"
tail_word tail.Late = codes "Late"
tail_word tail.Failed = codes "Failed"
tail_word tail.Halted = codes "Halted"
tail_word tail.NoMemory = codes "NoMemory"

-- a further response code
abbrev pub further_code : ℕ → List ℕ
further_code code = codes "," ++ decimal code

-- the codes of responses with commas between them, or a dash
abbrev pub written_codes : List ℕ → List ℕ
written_codes [] = codes "-"
written_codes (first ∷ rest) = decimal first ++ flat_map further_code rest

-- the generation, the cause, the tail and the codes of the responses
abbrev pub line_of : SeenEnded → List ℕ
line_of e =
    decimal e.generation
    ++ codes " "
    ++ cause_word e.cause
    ++ codes " "
    ++ tail_word e.tail
    ++ codes " "
    ++ written_codes (codes_in e.notes)
    ++ codes "\n"
