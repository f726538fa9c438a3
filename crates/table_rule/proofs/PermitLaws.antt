-- What the entries of a turn leave of permits and credits.
use Rattle.std.proofs.Common.{◌≡◌, ◌≢◌, ◌⊎◌, inl, inr, ⊎_elim, ℕ, zero, suc, ◌<◌, Bool, true, false, not, ◌&&◌, List, [], ◌∷◌, ◌++◌, Option, Some, None, slice_get, refl, sym, ap, subst, ◌∙◌, append_assoc, append-nil}
use Rattle.std.specs.Prelude.{nat_lt, slice_index, if◌then◌else◌}
use Rattle.std.specs.Option.{option_map_or}
use Rattle.std.proofs.lemmas.Bool.{and_parts, eqb-true}
use native.Mathlib.Decide.{ℕ_discrete}
use Rattle.mpm_base.specs.declared.conn.ConnName.{ConnName}
use Rattle.conn_machine.specs.declared.row.Row.{Row}
use Rattle.conn_machine.specs.declared.row.Place.{Place}
use Rattle.conn_machine.specs.declared.row.Place.TheVariants.{Vacant, Spent, Held, Parked, Queued, Working}
use Rattle.conn_machine.specs.declared.child.Child.{Child}
use Rattle.conn_machine.specs.declared.child.ChildPhase.TheVariants as childphase
use Rattle.conn_machine.specs.declared.event.Commanded.{Commanded}
use Rattle.conn_machine.specs.declared.event.Commanded.TheVariants.{Graceful, Refused, GracefulStop, Stop}
use Rattle.conn_machine.specs.declared.event.Event.{Event}
use Rattle.conn_machine.specs.declared.event.Event.TheVariants as event
use Rattle.conn_machine.specs.declared.event.Reply.{Reply}
use Rattle.conn_machine.specs.declared.event.Entry.{Entry}
use Rattle.conn_machine.specs.declared.state.State.{State}
use Rattle.conn_machine.specs.Lists.{update}
use Rattle.conn_machine.specs.Rows.{is_carried_at, is_queued, is_working}
use Rattle.conn_machine.specs.Children.{child_at, all_stopped, stopped_child, is_empty, is_running, started_child, retired_child}
use Rattle.conn_machine.specs.States.{is_serving, is_halted, is_signalled}
use Rattle.conn_machine.specs.Table.{is_allowed, next, reply, may_be_queued, next_command, taken_row, held_row, queued_row, served_row, answered_row, child_passes}
use Rattle.conn_machine.specs.declared.folded.Folded.{Folded}
use Rattle.conn_machine.specs.Runs.{AllAt, after, has_after, may_make, row_from, AreEntriesOf}
use Rattle.conn_machine.specs.Sound.{IsSound}
use Rattle.table_rule.specs.Histories.{ArePermitted, IsPermitted, IsQueuedInTime, threads_of}
use Rattle.table_rule.proofs.MachineLemmas.{after-snoc, get_changed, had_row, met, none_some, off, row_own, some_is}

-- ## The permit of the pass

-- where the pass has a row that a worker has, or will, it has a permit of its child
abbrev pub IsPermittedRow : State → Option ConnName → Option ℕ → Type 0
IsPermittedRow s had permit =
    (name : ConnName) (r : Row) → had ≡ Some name → slice_get s.rows name.slot ≡ Some r → is_carried_at r.place ≡ true → permit ≡ Some r.child

-- the changed row of a slot
at_changed : (rows : List Row) (slot : ℕ) (r r' : Row) (change : Row → Row) (i : ℕ) → slice_get rows slot ≡ Some r → i ≡ slot
    → slice_get (update rows slot change) i ≡ Some r' → change r ≡ r'
at_changed rows slot r r' change i at same at' =
    some_is (slice_get (update rows slot change) slot) (change r) r' (get_changed rows slot r change at)
    (subst (λ j. slice_get (update rows slot change) j ≡ Some r') same at')

-- a row that no worker has needs no permit
held_permits : (rows : List Row) (slot : ℕ) (r r' : Row) (change : Row → Row) (permit : Option ℕ) → slice_get rows slot ≡ Some r
    → is_carried_at (change r).place ≡ false → (i : ℕ) → i ≡ slot → slice_get (update rows slot change) i ≡ Some r' → is_carried_at r'.place ≡ true
    → permit ≡ Some r'.child
held_permits rows slot r r' change permit at held i same at' carried =
    off (ap (λ (x : Row). is_carried_at x.place) (sym (at_changed rows slot r r' change i at same at')) ∙ held) carried

-- a row keeps its permit
kept_permits : (rows : List Row) (slot : ℕ) (r r' : Row) (change : Row → Row) (permit : Option ℕ) → slice_get rows slot ≡ Some r
    → (change r).child ≡ r.child → permit ≡ Some r.child → (i : ℕ) → i ≡ slot → slice_get (update rows slot change) i ≡ Some r'
    → permit ≡ Some r'.child
kept_permits rows slot r r' change permit at child has i same at' =
    has ∙ ap Some (sym child ∙ ap (λ (x : Row). x.child) (at_changed rows slot r r' change i at same at'))

queued_carried : (place : Place) → is_queued place ≡ true → is_carried_at place ≡ true
queued_carried Vacant is = absurd (cc)
queued_carried Spent is = absurd (cc)
queued_carried Held is = absurd (cc)
queued_carried (Parked kind) is = absurd (cc)
queued_carried Queued is = refl
queued_carried (Working cell phase) is = refl

working_carried : (place : Place) → is_working place ≡ true → is_carried_at place ≡ true
working_carried Vacant is = absurd (cc)
working_carried Spent is = absurd (cc)
working_carried Held is = absurd (cc)
working_carried (Parked kind) is = absurd (cc)
working_carried Queued is = absurd (cc)
working_carried (Working cell phase) is = refl

slot_is : (had : Option ConnName) (a name : ConnName) (slot : ℕ) → had ≡ Some a → had ≡ Some name → a.slot ≡ slot → name.slot ≡ slot
slot_is had a name slot ea en same = ap (λ (n : ConnName). n.slot) (some_is had name a en ea) ∙ same

accepted_row : (s : State) (slot i : ℕ) (r' : Row) → i ≡ slot → slice_get (update s.rows slot (taken_row s)) i ≡ Some r' → is_carried_at r'.place ≡ false
accepted_row s slot i r' same at = by s.rows slot (subst (λ j. slice_get (update s.rows slot (taken_row s)) j ≡ Some r') same at)
  where
    by : (rows : List Row) (j : ℕ) → slice_get (update rows j (taken_row s)) j ≡ Some r' → is_carried_at r'.place ≡ false
    by [] j e = absurd (cc)
    by (x ∷ rows) zero e = ap (λ (y : Row). is_carried_at y.place) (sym (some_is (Some (taken_row s x)) _ r' refl e))
    by (x ∷ rows) (suc j) e = by rows j e

-- an event that a pass with this permit may make leaves it so
event_permits : (s : State) (p : ℕ) (had : Option ConnName) (permit : Option ℕ) (credits : List ℕ) (e : Event) → is_allowed s e ≡ true
    → may_make p had e ≡ true → IsPermitted permit credits s e → IsPermittedRow s had permit
    → IsPermittedRow (next s e) (has_after had e (reply s e)) permit
event_permits s p had permit credits (event.Accept slot) may role permitted has name r is at carried =
    off (accepted_row s slot name.slot r (ap (λ (n : ConnName). n.slot) (some_is _ name _ is refl)) at) carried
event_permits s p had permit credits (event.Park name' kind) may role permitted has name r is at carried = none_some None name refl is
event_permits s p had permit credits (event.Hold name') may role permitted has name r is at carried =
    let m = met _ s.rows name' may in
    held_permits s.rows name'.slot m.row r held_row permit m.at refl name.slot (ap (λ (n : ConnName). n.slot) (some_is (Some name') name name' is refl)) at carried
event_permits s p had permit credits (event.Queue name') may role permitted has name r is at carried =
    let m = met (may_be_queued s) s.rows name' (and_parts (not (is_halted s.going) && is_signalled s name'.slot) _ may).1 in
    let row : permitted.0 ≡ m.row = some_is _ permitted.0 m.row permitted.1 m.live in
    kept_permits s.rows name'.slot m.row r queued_row permit m.at refl (permitted.2 ∙ ap (λ (x : Row). Some x.child) row)
    name.slot (ap (λ (n : ConnName). n.slot) (some_is (Some name') name name' is refl)) at
event_permits s p had permit credits (event.Start name') may role permitted has name r is at carried =
    let m = met (λ x. is_queued x.place) s.rows name' may in
    let h = had_row had name' role in
    let mine : permit ≡ Some m.row.child = has h.0 m.row h.1 (ap (λ i. slice_get s.rows i) h.2 ∙ m.at) (queued_carried m.row.place m.passes) in
    kept_permits s.rows name'.slot m.row r (served_row s) permit m.at refl mine name.slot (slot_is had h.0 name name'.slot h.1 is h.2) at
event_permits s p had permit credits (event.Answer name' ask) may role permitted has name r is at carried =
    let m = met (λ x. is_working x.place && not x.last) s.rows name' (and_parts (not (is_halted s.going)) _ may).1 in
    let h = had_row had name' role in
    let mine : permit ≡ Some m.row.child =
    has h.0 m.row h.1 (ap (λ i. slice_get s.rows i) h.2 ∙ m.at) (working_carried m.row.place (and_parts (is_working m.row.place) (not m.row.last) m.passes).0) in
    kept_permits s.rows name'.slot m.row r (answered_row s name'.slot ask) permit m.at refl mine name.slot (slot_is had h.0 name name'.slot h.1 is h.2) at
event_permits s p had permit credits (event.Linger name' why) may role permitted has name r is at carried = none_some None name refl is
event_permits s p had permit credits (event.Close name' why how) may role permitted has name r is at carried = none_some None name refl is
event_permits s p had permit credits (event.Ready slot) may role permitted has name r is at carried = has name r is at carried
event_permits s p had permit credits (event.Tick m) may role permitted has name r is at carried = has name r is at carried
event_permits s p had permit credits (event.StartChild k) may role permitted has name r is at carried = has name r is at carried
event_permits s p had permit credits (event.Command c) may role permitted has name r is at carried = has name r is (ap (λ l. slice_get l name.slot) (sym (rows c)) ∙ at) carried
  where
    rows : (c : Commanded) → (next_command s c).rows ≡ s.rows
    rows (Graceful shape) = refl
    rows (Refused reason) = refl
    rows (GracefulStop until) = refl
    rows (Stop reason) = refl
event_permits s p had permit credits (event.Retire k) may role permitted has name r is at carried = has name r is at carried

-- so do its entries
pub entries_permit : (start : State) (f : Folded) (p : ℕ) (before added : List Entry) (permit : Option ℕ) (credits : List ℕ) → AreEntriesOf p start f before added
    → ArePermitted permit credits (after start before) added → IsPermittedRow (after start before) (row_from f p before) permit
    → IsPermittedRow (after start (before ++ added)) (row_from f p (before ++ added)) permit
entries_permit start f p before [] permit credits are permitted has =
    subst (λ h. IsPermittedRow (after start h) (row_from f p h) permit) (sym (append-nil before)) has
entries_permit start f p before (e ∷ added) permit credits are permitted has =
    let s = after start before in
    let one : IsPermittedRow (next s e.event) (has_after (row_from f p before) e.event (reply s e.event)) permit =
    event_permits s p (row_from f p before) permit credits e.event are.0.is_allowed are.0.role permitted.0 has in
    let row : has_after (row_from f p before) e.event (reply s e.event) ≡ row_from f p (before ++ e ∷ []) =
    ap (λ (r : Reply). has_after (row_from f p before) e.event r) (sym are.0.replied) ∙ sym (row_own f p before e are.0.pass) in
    let two : IsPermittedRow (after start (before ++ e ∷ [])) (row_from f p (before ++ e ∷ [])) permit =
    subst (λ (t : State). IsPermittedRow t (row_from f p (before ++ e ∷ [])) permit) (sym (after-snoc start before e))
    (subst (λ o. IsPermittedRow (next s e.event) o permit) row one) in
    subst (λ h. IsPermittedRow (after start h) (row_from f p h) permit) (append_assoc before (e ∷ []) added)
    (entries_permit start f p (before ++ e ∷ []) added permit credits are.1
    (subst (λ t. ArePermitted permit credits t added) (sym (after-snoc start before e)) permitted.1) two)

-- ## The credits

-- a child's credit is 0, or its workers
abbrev pub IsCredited : List ℕ → State → Type 0
IsCredited credits s = (k : ℕ) → k < 32 → (slice_index credits k ≡ 0) ⊎ (slice_index credits k ≡ threads_of s k)

child_else : (children : List Child) (i j : ℕ) (change : Child → Child) → j ≢ i → child_at (update children i change) j ≡ child_at children j
child_else [] i j change ne = refl
child_else (x ∷ xs) zero zero change ne = absurd (ne refl)
child_else (x ∷ xs) zero (suc j) change ne = refl
child_else (x ∷ xs) (suc i) zero change ne = refl
child_else (x ∷ xs) (suc i) (suc j) change ne = child_else xs i j change (λ e. ne (ap suc e))

stopped_threads : (c : Child) → (stopped_child c).shape.threads ≡ c.shape.threads
stopped_threads c = by (is_running c.phase)
  where
    by : (b : Bool) → (if b then record c { phase = childphase.Stopping } else c).shape.threads ≡ c.shape.threads
    by true = refl
    by false = refl

all_threads : (children : List Child) (k : ℕ) → (child_at (all_stopped children) k).shape.threads ≡ (child_at children k).shape.threads
all_threads [] k = refl
all_threads (x ∷ xs) zero = stopped_threads x
all_threads (x ∷ xs) (suc k) = all_threads xs k

commanded_threads : (s : State) (c : Commanded) (k : ℕ) → threads_of (next_command s c) k ≡ threads_of s k
commanded_threads s (Graceful shape) k = all_threads s.children k
commanded_threads s (Refused reason) k = refl
commanded_threads s (GracefulStop until) k = all_threads s.children k
commanded_threads s (Stop reason) k = all_threads s.children k

-- the child of a number that passes a test
child_met : (test : Child → Bool) (s : State) (k : ℕ) → child_passes test s k ≡ true → test (child_at s.children k) ≡ true
child_met test s k passes = by s.children k passes
  where
    by : (children : List Child) (j : ℕ) → option_map_or test (slice_get children j) false ≡ true → test (child_at children j) ≡ true
    by [] j e = absurd (cc)
    by (x ∷ xs) zero e = e
    by (x ∷ xs) (suc j) e = by xs j e

-- other children keep their workers
credits_else : (credits : List ℕ) (s s' : State) (i : ℕ) → IsCredited credits s → ((k : ℕ) → k ≢ i → threads_of s' k ≡ threads_of s k)
    → slice_index credits i ≡ 0 → IsCredited credits s'
credits_else credits s s' i has same none k lt = elim (ℕ_discrete k i) [
  | yes e ↦ inl (ap (slice_index credits) e ∙ none)
  | no ne ↦ ⊎_elim (λ z. inl z) (λ t. inr (t ∙ sym (same k ne))) (has k lt)
]

credits_same : (credits : List ℕ) (s s' : State) → IsCredited credits s → ((k : ℕ) → threads_of s' k ≡ threads_of s k) → IsCredited credits s'
credits_same credits s s' has same k lt = ⊎_elim (λ z. inl z) (λ t. inr (t ∙ sym (same k))) (has k lt)

-- an event of a pass leaves each credit 0, or the workers of its child, where pass 0 may make its events with these credits
event_credits : (s : State) (p : ℕ) (had : Option ConnName) (permit : Option ℕ) (credits : List ℕ) (e : Event) → IsSound s → is_allowed s e ≡ true
    → may_make p had e ≡ true → (p ≡ 0 → IsPermitted permit credits s e) → IsCredited credits s → IsCredited credits (next s e)
event_credits s p had permit credits (event.Accept slot) sound may role permitted has = has
event_credits s p had permit credits (event.Park name kind) sound may role permitted has = has
event_credits s p had permit credits (event.Hold name) sound may role permitted has = has
event_credits s p had permit credits (event.Queue name) sound may role permitted has = has
event_credits s p had permit credits (event.Start name) sound may role permitted has = has
event_credits s p had permit credits (event.Answer name ask) sound may role permitted has = has
event_credits s p had permit credits (event.Linger name why) sound may role permitted has = has
event_credits s p had permit credits (event.Close name why how) sound may role permitted has = has
event_credits s p had permit credits (event.Ready slot) sound may role permitted has = has
event_credits s p had permit credits (event.Tick m) sound may role permitted has = has
event_credits s p had permit credits (event.StartChild i) sound may role permitted has =
    let empty : child_passes (λ c. is_empty c.phase) s i ≡ true =
    (and_parts (is_serving s.going) (child_passes (λ c. is_empty c.phase) s i) (and_parts (is_serving s.going && child_passes (λ c. is_empty c.phase) s i) _ may).0).1 in
    let none : threads_of s i ≡ 0 = (sound.children.gone i (child_met (λ c. is_empty c.phase) s i empty)).none_works in
    λ k lt. elim (ℕ_discrete k i) [
      | yes e ↦ inl (⊎_elim (λ z. z) (λ t. t ∙ ap (threads_of s) e ∙ none) (has k lt))
      | no ne ↦ ⊎_elim (λ z. inl z) (λ t. inr (t ∙ sym (ap (λ (c : Child). c.shape.threads) (child_else s.children i k (started_child s.newest s.shape) ne)))) (has k lt)
    ]
event_credits s p had permit credits (event.Command c) sound may role permitted has =
    credits_same credits s (next s (event.Command c)) has (commanded_threads s c)
event_credits s p had permit credits (event.Retire i) sound may role permitted has =
    credits_else credits s (next s (event.Retire i)) i has
    (λ k ne. ap (λ (c : Child). c.shape.threads) (child_else s.children i k retired_child ne)) (permitted (eqb-true p 0 role))

-- so do its entries
pub entries_credit : ((s : State) (e : Event) → IsSound s → is_allowed s e ≡ true → IsSound (next s e)) → (start : State) (f : Folded) (p : ℕ) (before added : List Entry) (permit : Option ℕ) (credits : List ℕ) → IsSound (after start before)
    → AreEntriesOf p start f before added → (p ≡ 0 → ArePermitted permit credits (after start before) added) → IsCredited credits (after start before)
    → IsCredited credits (after start (before ++ added))
entries_credit keeps start f p before [] permit credits sound are permitted has = subst (λ h. IsCredited credits (after start h)) (sym (append-nil before)) has
entries_credit keeps start f p before (e ∷ added) permit credits sound are permitted has =
    let s = after start before in
    let one : IsCredited credits (next s e.event) =
    event_credits s p (row_from f p before) permit credits e.event sound are.0.is_allowed are.0.role (λ z. (permitted z).0) has in
    subst (λ h. IsCredited credits (after start h)) (append_assoc before (e ∷ []) added)
    (entries_credit keeps start f p (before ++ e ∷ []) added permit credits
    (subst IsSound (sym (after-snoc start before e)) (keeps s e.event sound are.0.is_allowed)) are.1
    (λ z. subst (λ t. ArePermitted permit credits t added) (sym (after-snoc start before e)) (permitted z).1)
    (subst (IsCredited credits) (sym (after-snoc start before e)) one))

-- ## In time

in_time : (permit : Option ℕ) (credits : List ℕ) (s : State) (e : Event) → IsPermitted permit credits s e → IsQueuedInTime s e
in_time permit credits s (event.Accept slot) may = tt
in_time permit credits s (event.Park name kind) may = tt
in_time permit credits s (event.Hold name) may = tt
in_time permit credits s (event.Queue name) may =
    ap (λ (o : Option Row). option_map_or (λ (r : Row). nat_lt s.moment r.deadline) o false) may.1 ∙ may.3
in_time permit credits s (event.Start name) may = tt
in_time permit credits s (event.Answer name ask) may = tt
in_time permit credits s (event.Linger name why) may = tt
in_time permit credits s (event.Close name why how) may = tt
in_time permit credits s (event.Ready slot) may = tt
in_time permit credits s (event.Tick m) may = tt
in_time permit credits s (event.StartChild k) may = tt
in_time permit credits s (event.Command c) may = tt
in_time permit credits s (event.Retire k) may = tt

-- what is permitted is handed over in time
pub permitted_in_time : (permit : Option ℕ) (credits : List ℕ) (s : State) (entries : List Entry) → ArePermitted permit credits s entries
    → AllAt IsQueuedInTime s entries
permitted_in_time permit credits s [] may = tt
permitted_in_time permit credits s (e ∷ entries) may =
    (in_time permit credits s e.event may.0, permitted_in_time permit credits (next s e.event) entries may.1)

-- what holds of each entry of two parts does of each of both
pub all_join : (P : State → Event → Type 0) (s : State) (a b : List Entry) → AllAt P s a → AllAt P (after s a) b → AllAt P s (a ++ b)
all_join P s [] b first second = second
all_join P s (e ∷ a) b first second = (first.0, all_join P (next s e.event) a b first.1 second)
