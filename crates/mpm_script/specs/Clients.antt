-- The connections of a script, what their clients send, and which calls of their links fail.
use Rattle.std.specs.Prelude.{ℕ, Bool, true, false, List, [], ◌∷◌, ◌++◌, map, bytes_eq, slice_index_or, if◌then◌else◌}
use Rattle.std.specs.List.{flat_map, list_any}
use Rattle.mpm_base.specs.declared.script_line.ClientAct.{ClientAct}
use Rattle.mpm_base.specs.declared.script_line.ClientAct.TheVariants as act
use Rattle.mpm_base.specs.declared.script_line.LinkCall.{LinkCall}
use Rattle.mpm_base.specs.declared.script_line.LinkCall.TheVariants as call
use Rattle.mpm_base.specs.declared.script_line.ScriptLine.{ScriptLine}
use Rattle.mpm_base.specs.declared.script_line.ScriptLine.TheVariants as line

-- the name of the connection that the line makes
abbrev pub made_by : ScriptLine → List (List ℕ)
made_by (line.At m) = []
made_by (line.Conn name) = name ∷ []
made_by (line.Client name act) = []
made_by (line.Command word) = []
made_by (line.Site site) = []

-- the names of the connections, in order
abbrev pub names_of : List ScriptLine → List (List ℕ)
names_of lines = flat_map made_by lines

-- the name of the connection of that number, from 0
abbrev pub name_at : List ScriptLine → ℕ → List ℕ
name_at lines number = slice_index_or (names_of lines) number []

-- ## What clients send

-- what a client sends from an act on, where it sends this behind it: nothing counts behind its end
abbrev pub sent_from : ClientAct → List ℕ → List ℕ
sent_from (act.Send bytes) later = bytes ++ later
sent_from act.End later = []
sent_from act.Drop later = later
sent_from (act.Room room) later = later
sent_from (act.Fail which number) later = later

-- what the client of that name sends from the line on, where it sends this behind the line
abbrev pub sent_from_line : List ℕ → ScriptLine → List ℕ → List ℕ
sent_from_line name (line.At m) later = later
sent_from_line name (line.Conn other) later = later
sent_from_line name (line.Client other act) later = if bytes_eq other name then sent_from act later else later
sent_from_line name (line.Command word) later = later
sent_from_line name (line.Site site) later = later

-- what the client of that name sends: the bytes of its sends up to its first end
abbrev pub sent_by : List ℕ → List ScriptLine → List ℕ
sent_by name [] = []
sent_by name (line ∷ lines) = sent_from_line name line (sent_by name lines)

-- what each client sends, in the order of the connections
abbrev pub clients_of : List ScriptLine → List (List ℕ)
clients_of lines = map (λ name. sent_by name lines) (names_of lines)

-- ## Which calls fail

-- the number of a call that is to fail, where it is of the kind that is asked for
abbrev pub number_for : LinkCall → LinkCall → ℕ → List ℕ
number_for call.Read call.Read number = number ∷ []
number_for call.Read call.Write number = []
number_for call.Write call.Read number = []
number_for call.Write call.Write number = number ∷ []

-- the number of the call of that kind that the act makes fail
abbrev pub fails_in : LinkCall → ClientAct → List ℕ
fails_in kind (act.Send bytes) = []
fails_in kind act.End = []
fails_in kind act.Drop = []
fails_in kind (act.Room room) = []
fails_in kind (act.Fail which number) = number_for kind which number

-- the same of a line, for the link of that name
abbrev pub fails_in_line : LinkCall → List ℕ → ScriptLine → List ℕ
fails_in_line kind name (line.At m) = []
fails_in_line kind name (line.Conn other) = []
fails_in_line kind name (line.Client other act) = if bytes_eq other name then fails_in kind act else []
fails_in_line kind name (line.Command word) = []
fails_in_line kind name (line.Site site) = []

-- the numbers of the reads, or of the writes, of the link of that name that are to fail, in the order of their lines
abbrev pub fails_of : LinkCall → List ℕ → List ScriptLine → List ℕ
fails_of kind name lines = flat_map (fails_in_line kind name) lines

-- the act drops the link
abbrev pub is_drop : ClientAct → Bool
is_drop (act.Send bytes) = false
is_drop act.End = false
is_drop act.Drop = true
is_drop (act.Room room) = false
is_drop (act.Fail which number) = false

-- the line drops the link of that name
abbrev pub drops : List ℕ → ScriptLine → Bool
drops name (line.At m) = false
drops name (line.Conn other) = false
drops name (line.Client other act) = if bytes_eq other name then is_drop act else false
drops name (line.Command word) = false
drops name (line.Site site) = false

-- one of the lines does
abbrev pub is_dropped : List ℕ → List ScriptLine → Bool
is_dropped name lines = list_any (drops name) lines
