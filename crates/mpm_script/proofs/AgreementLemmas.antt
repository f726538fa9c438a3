-- What lines leave for the next one to agree with: the connections that they make, and their moment.
use Rattle.std.proofs.Common.{◌≡◌, ℕ, true, false, List, [], ◌∷◌, ◌++◌, refl, ap, ◌∙◌, append_assoc}
use Rattle.std.specs.Prelude.{bytes_eq, ◌||◌}
use Rattle.std.specs.List.{list_any}
use Rattle.std.proofs.lemmas.List.{append-nil}
use Rattle.std.proofs.lemmas.List.Concat.{flat_map-append}
use Rattle.mpm_script.specs.Clients.{made_by, names_of}
use Rattle.mpm_script.specs.Script.{has_conn, moment_from, is_repeated, is_backwards, is_unknown, agrees, AllAgree}
use Rattle.mpm_base.specs.declared.script_line.ScriptLine.{ScriptLine}
use Rattle.mpm_base.specs.declared.script_line.ScriptLine.TheVariants as line

-- a name that is among those of the lines is one that a line makes
pub has_conn_named : (name : List ℕ) (lines : List ScriptLine)
    → list_any (λ other. bytes_eq other name) (names_of lines) ≡ has_conn name lines
has_conn_named name [] = refl
has_conn_named name (line.At m ∷ lines) = has_conn_named name lines
has_conn_named name (line.Conn other ∷ lines) = ap (λ b. bytes_eq other name || b) (has_conn_named name lines)
has_conn_named name (line.Client other act ∷ lines) = has_conn_named name lines
has_conn_named name (line.Command word ∷ lines) = has_conn_named name lines
has_conn_named name (line.Site site ∷ lines) = has_conn_named name lines

-- one more line
pub names_push : (lines : List ScriptLine) (next : ScriptLine) → names_of (lines ++ next ∷ []) ≡ names_of lines ++ made_by next
names_push lines next =
    flat_map-append made_by lines (next ∷ []) ∙ ap (λ xs. names_of lines ++ xs) (append-nil (made_by next))

pub moment_push : (m : ℕ) (lines : List ScriptLine) (next : ScriptLine)
    → moment_from m (lines ++ next ∷ []) ≡ moment_from (moment_from m lines) (next ∷ [])
moment_push m [] next = refl
moment_push m (line.At later ∷ lines) next = moment_push later lines next
moment_push m (line.Conn name ∷ lines) next = moment_push m lines next
moment_push m (line.Client name act ∷ lines) next = moment_push m lines next
moment_push m (line.Command word ∷ lines) next = moment_push m lines next
moment_push m (line.Site site ∷ lines) next = moment_push m lines next

pub agree_push : (before lines : List ScriptLine) (next : ScriptLine)
    → AllAgree before lines → agrees (before ++ lines) next ≡ true → AllAgree before (lines ++ next ∷ [])
agree_push before [] next h k = (rw append-nil at k, tt)
agree_push before (line ∷ lines) next h k =
    (h.0, agree_push (before ++ line ∷ []) lines next h.1 (rw (append_assoc before (line ∷ []) lines) k))

-- a line that passes the three tests agrees
pub agrees_if : (before : List ScriptLine) (next : ScriptLine) → false ≡ is_repeated before next → false ≡ is_backwards before next
    → false ≡ is_unknown before next → agrees before next ≡ true
agrees_if before next r b u = rw (← r, ← b, ← u) refl

-- each line agrees with those before it
pub agrees_at : (before front : List ScriptLine) (next : ScriptLine) (behind : List ScriptLine)
    → AllAgree before (front ++ next ∷ behind) → agrees (before ++ front) next ≡ true
agrees_at before [] next behind h = rw append-nil h.0
agrees_at before (line ∷ front) next behind h =
    rw append_assoc at (agrees_at (before ++ line ∷ []) front next behind h.1)
