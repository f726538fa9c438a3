-- Each connection that was accepted is live, by its name, until an entry closes it.
use Rattle.std.proofs.Common.{◌≡◌, ℕ, zero, suc, Bool, true, false, not, ◌&&◌, ◌||◌, ◌==◌, List, [], ◌∷◌, ◌++◌, Option, Some, None, slice_get, refl, sym, ap, ◌∙◌, subst}
use Rattle.std.specs.Prelude.{if◌then◌else◌}
use Rattle.std.specs.List.{list_any}
use Rattle.std.specs.Option.{option_map_or}
use Rattle.std.proofs.lemmas.Bool.{and_parts, and_from, eq-eqb}
use Rattle.mpm_base.specs.declared.conn.ConnName.{ConnName}
use Rattle.mpm_base.specs.declared.conn.Cause.{Cause}
use Rattle.mpm_base.specs.declared.conn.Tail.{Tail}
use Rattle.conn_machine.specs.declared.row.Row.{Row}
use Rattle.conn_machine.specs.declared.event.Commanded.{Commanded}
use Rattle.conn_machine.specs.declared.event.Commanded.TheVariants.{Graceful, Refused, GracefulStop, Stop}
use Rattle.conn_machine.specs.declared.event.Event.{Event}
use Rattle.conn_machine.specs.declared.event.Event.TheVariants as event
use Rattle.conn_machine.specs.declared.event.Reply.TheVariants.{Took}
use Rattle.conn_machine.specs.declared.event.Entry.{Entry}
use Rattle.conn_machine.specs.declared.state.State.{State}
use Rattle.conn_machine.specs.Lists.{update}
use Rattle.conn_machine.specs.Rows.{is_vacant, is_held, is_working, is_live, is_live_as, row_where, row_passes}
use Rattle.conn_machine.specs.Table.{is_allowed, next, may_accept, taken_row, parked_row, held_row, queued_row, served_row, answered_row, lingering_row, closed_row, may_close, end_fits, next_command}
use Rattle.conn_machine.specs.Runs.{Run, after, is_name}
use Rattle.conn_machine.specs.Laws.{IsTakenFor, is_alive, closes_name, is_alive_or_closed}
use Rattle.conn_machine.proofs.AllowedLemmas.{accept-row}
use Rattle.conn_machine.proofs.ChangeLaw.{is_met, unused-in_phase}
use Rattle.conn_machine.proofs.LawLemmas.{run_after, taken-chosen}
use Rattle.conn_machine.proofs.PickLemmas.{PicksOne}
use Rattle.conn_machine.proofs.RunLemmas.{after-append}
use Rattle.conn_machine.proofs.NameLaw.{vacant_live}

-- the slot of the name has a row with the name
abbrev pub has_name : ConnName → List Row → Bool
has_name name rows = row_passes (is_live_as name) rows name.slot

-- a row that is found by its name has it
named_there : (name : ConnName) (r : Row) (named : Bool) → option_map_or (λ x. true) (if named then Some r else None) false ≡ named
named_there name r true = refl
named_there name r false = refl

-- so it is of a row that may be there
alive_there : (name : ConnName) (o : Option Row) → option_map_or (λ x. true) (row_where (is_live_as name) o) false ≡ option_map_or (is_live_as name) o false
alive_there name None = refl
alive_there name (Some r) = named_there name r (is_live_as name r)

-- a connection is live exactly where its slot has a row with its name
alive_is : (s : State) (name : ConnName) → is_alive s name ≡ has_name name s.rows
alive_is s name = alive_there name (slice_get s.rows name.slot)

-- ## One event

-- a test that the row of a slot passes is passed after a change of a row, where the changed one passes it if it is that one
passes_updated : (test : Row → Bool) (rows : List Row) (i slot : ℕ) (change : Row → Row) → row_passes test rows slot ≡ true
    → ((r : Row) → i ≡ slot → slice_get rows i ≡ Some r → test r ≡ true → test (change r) ≡ true)
    → row_passes test (update rows i change) slot ≡ true
passes_updated test [] i slot change passes may = passes
passes_updated test (x ∷ rows) zero zero change passes may = may x refl refl passes
passes_updated test (x ∷ rows) zero (suc slot) change passes may = passes
passes_updated test (x ∷ rows) (suc i) zero change passes may = passes
passes_updated test (x ∷ rows) (suc i) (suc slot) change passes may =
    passes_updated test rows i slot change passes (λ r same at passes'. may r (ap suc same) at passes')

-- after a change that leaves a row's life and keeps it live its name is there
name_kept : (name : ConnName) (rows : List Row) (i : ℕ) (change : Row → Row) → has_name name rows ≡ true
    → ((r : Row) → is_live r ≡ true → is_live (change r) ≡ true) → ((r : Row) → (change r).life ≡ r.life)
    → has_name name (update rows i change) ≡ true
name_kept name rows i change has live life =
    passes_updated (is_live_as name) rows i name.slot change has
    (λ r same at named.
    let parts = and_parts (is_live r) (r.life == name.life) named in
    and_from (is_live (change r)) ((change r).life == name.life) (live r parts.0)
    (subst (λ (n : ℕ). (n == name.life) ≡ true) (sym (life r)) parts.1))

-- a connection isn't taken into the slot of one that lives
name_taken : (s : State) (i : ℕ) (name : ConnName) → may_accept s i ≡ true → has_name name s.rows ≡ true
    → has_name name (update s.rows i (taken_row s)) ≡ true
name_taken s i name may has =
    let (x, there, vacant) = accept-row s i may in
    passes_updated (is_live_as name) s.rows i name.slot (taken_row s) has
    (λ r same at named.
    let e : x ≡ r = cc in
    vacant_live r (subst (λ (y : Row). is_vacant y.place ≡ true) e vacant) (and_parts (is_live r) (r.life == name.life) named).0)

-- two numbers that are the same, and two that differ, as names are compared
names_same : (name other : ConnName) (r : Row) → other.slot ≡ name.slot → r.life ≡ other.life → (r.life == name.life) ≡ true
    → is_name other name ≡ true
names_same name other r slot life same =
    and_from (other.slot == name.slot) (other.life == name.life) (eq-eqb other.slot name.slot slot)
    (subst (λ (n : ℕ). (n == name.life) ≡ true) life same)

-- a close of another connection leaves the name
name_closed : (s : State) (name other : ConnName) (why : Cause) (how : Tail) → may_close s other why how ≡ true
    → is_name other name ≡ false → has_name name s.rows ≡ true → has_name name (update s.rows other.slot closed_row) ≡ true
name_closed s name other why how may differs has =
    passes_updated (is_live_as name) s.rows other.slot name.slot closed_row has
    (λ r same at named.
    let met = is_met other (λ x. (is_held x.place || is_working x.place) && end_fits s why how x) s.rows r may at in
    let is = names_same name other r same met.life (and_parts (is_live r) (r.life == name.life) named).1 in
    absurd (cc))

-- a command leaves the rows
name_commanded : (s : State) (c : Commanded) (name : ConnName) → has_name name s.rows ≡ true → has_name name (next_command s c).rows ≡ true
name_commanded s (Graceful shape) name has = has
name_commanded s (Refused reason) name has = has
name_commanded s (GracefulStop until) name has = has
name_commanded s (Stop reason) name has = has

-- a name that is there stays there after an allowed event that doesn't close it
name_stays : (s : State) (e : Event) (name : ConnName) → is_allowed s e ≡ true → closes_name name e ≡ false → has_name name s.rows ≡ true
    → has_name name (next s e).rows ≡ true
name_stays s (event.Accept i) name may other_is has = name_taken s i name may has
name_stays s (event.Park other kind) name may other_is has = name_kept name s.rows other.slot (parked_row s kind) has (λ r live. refl) (λ r. refl)
name_stays s (event.Hold other) name may other_is has = name_kept name s.rows other.slot held_row has (λ r live. refl) (λ r. refl)
name_stays s (event.Queue other) name may other_is has = name_kept name s.rows other.slot queued_row has (λ r live. refl) (λ r. refl)
name_stays s (event.Start other) name may other_is has = name_kept name s.rows other.slot (served_row s) has (λ r live. refl) (λ r. refl)
name_stays s (event.Answer other ask) name may other_is has =
    name_kept name s.rows other.slot (answered_row s other.slot ask) has (λ r live. ap not (unused-in_phase _ r.place) ∙ live) (λ r. refl)
name_stays s (event.Linger other why) name may other_is has =
    name_kept name s.rows other.slot (lingering_row s why) has (λ r live. refl) (λ r. refl)
name_stays s (event.Close other why how) name may other_is has = name_closed s name other why how may other_is has
name_stays s (event.Ready i) name may other_is has = has
name_stays s (event.Tick m) name may other_is has = has
name_stays s (event.StartChild k) name may other_is has = has
name_stays s (event.Command c) name may other_is has = name_commanded s c name has
name_stays s (event.Retire k) name may other_is has = has

-- ## Runs

-- the name is there after the entries, or one of them closed it
abbrev pub IsThereOrClosed : ConnName → List Row → List Entry → Type 0
IsThereOrClosed name rows entries = (has_name name rows || list_any (λ e. closes_name name e.event) entries) ≡ true

-- where the first entry doesn't close it, one of the others did
there_further : (there first others : Bool) → (there || others) ≡ true → (there || (first || others)) ≡ true
there_further true first others is = refl
there_further false true others is = refl
there_further false false others is = is

-- where the first entry closes it, one of them did
there_first : (there others : Bool) → (there || (true || others)) ≡ true
there_first true others = refl
there_first false others = refl

-- so is a name that an entry closes, and one that stays there until the entries behind it
name_further : (name : ConnName) (rows : List Row) (e : Entry) (history : List Entry) (closes : Bool) → closes_name name e.event ≡ closes
    → (closes ≡ false → IsThereOrClosed name rows history) → IsThereOrClosed name rows (e ∷ history)
name_further name rows e history true is later = rw is (there_first (has_name name rows) (list_any (λ x. closes_name name x.event) history))
name_further name rows e history false is later =
    there_further (has_name name rows) (closes_name name e.event) (list_any (λ x. closes_name name x.event) history) (later refl)

-- a name that is there is so after every run, or an entry closed it
name_run : (s : State) (history : List Entry) (name : ConnName) → Run s history → has_name name s.rows ≡ true
    → IsThereOrClosed name (after s history).rows history
name_run s [] name run has = rw has refl
name_run s (e ∷ history) name run has =
    name_further name (after s (e ∷ history)).rows e history (closes_name name e.event) refl
    (λ stays. name_run (next s e.event) history name run.2 (name_stays s e.event name run.0 stays has))

-- the connection that was taken has its name there
taken_there : (name : ConnName) (rows : List Row) (r : Row) → row_where (is_live_as name) (slice_get rows name.slot) ≡ Some r
    → option_map_or (λ x. true) (row_where (is_live_as name) (slice_get rows name.slot)) false ≡ true
taken_there name rows r found = rw found refl

-- each connection that was accepted is live or was closed since
pub accepted_named : PicksOne → (s : State) (before rest : List Entry) (e : Entry) (slot : ℕ) (name : ConnName) (child generation : ℕ)
    → Run s (before ++ e ∷ rest) → e.event ≡ event.Accept slot → e.reply ≡ Took name child generation
    → is_alive_or_closed (after s (before ++ e ∷ rest)) rest name ≡ true
accepted_named law s before rest e slot name child generation run is replied =
    let st = after s before in
    let taken : IsTakenFor st slot e.reply = taken-chosen law s before rest e slot run is in
    let same : taken.name ≡ name = cc (taken.replied, replied) in
    let found = subst (λ (n : ConnName). row_where (is_live_as n) (slice_get (next st (event.Accept slot)).rows n.slot) ≡ Some taken.row) same taken.found in
    let alive : is_alive (next st (event.Accept slot)) name ≡ true = taken_there name (next st (event.Accept slot)).rows taken.row found in
    let there : has_name name (next st e.event).rows ≡ true =
    rw is (sym (alive_is (next st (event.Accept slot)) name) ∙ alive) in
    rw (after-append s before (e ∷ rest), alive_is (after (next st e.event) rest) name)
    (name_run (next st e.event) rest name (run_after s before (e ∷ rest) run).2 there)
