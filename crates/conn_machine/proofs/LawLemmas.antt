-- What the laws of the machine say of one entry of a run: a child that is let go of, a connection that is taken.
use Rattle.std.proofs.Common.{◌≡◌, ◌<◌, ◌≤◌, ◌==◌, ℕ, ◌+◌, ◌*◌, Bool, true, false, not, ◌&&◌, nat_lt, List, [], ◌∷◌, ◌++◌, Option, Some, None, is_some, slice_get, unwrap_or, refl, ap, ◌∙◌, le_trans, arith}
use Rattle.std.specs.List.{list_any}
use Rattle.std.specs.Option.{option_map_or}
use Rattle.std.proofs.lemmas.Bool.{and_parts, eq-eqb, eqb-true, not-true}
use Rattle.mpm_base.specs.declared.shape.Shape.{Shape}
use Rattle.mpm_base.specs.declared.conn.ConnName.{ConnName}
use Rattle.conn_machine.specs.declared.event.Commanded.{Commanded}
use Rattle.conn_machine.specs.declared.event.Commanded.TheVariants.{Graceful, Refused, GracefulStop, Stop}
use Rattle.conn_machine.specs.declared.event.Event.{Event}
use Rattle.conn_machine.specs.declared.event.Event.TheVariants as event
use Rattle.conn_machine.specs.declared.event.Reply.TheVariants.{Took}
use Rattle.conn_machine.specs.declared.event.Entry.{Entry}
use Rattle.conn_machine.specs.declared.row.Row.{Row}
use Rattle.conn_machine.specs.declared.state.State.{State}
use Rattle.conn_machine.specs.Lists.{update}
use Rattle.conn_machine.specs.Rows.{is_live_in, is_live_as, is_vacant, open_count, row_where}
use Rattle.conn_machine.specs.Children.{child_at, is_running, is_stopping}
use Rattle.conn_machine.specs.States.{is_serving, pick_child}
use Rattle.conn_machine.specs.Table.{is_allowed, next, reply, is_vacant_at, life_at, picked_child, taken_row, taken_reply, child_passes, may_accept, may_retire, next_command}
use Rattle.conn_machine.specs.Runs.{after, Run}
use Rattle.conn_machine.specs.Laws.{idle_in, IsChosen, IsTakenFor}
use Rattle.conn_machine.proofs.PickLemmas.{PicksOne, pick_is_chosen}
use Rattle.conn_machine.proofs.RunLemmas.{after-append}
use Rattle.conn_machine.proofs.UpdateLemmas.{get_changed}

-- ---- an entry of a run

-- what follows the first entries of a run is a run from the state after them
pub run_after : (s : State) (before rest : List Entry) → Run s (before ++ rest) → Run (after s before) rest
run_after s [] rest run = run
run_after s (e ∷ before) rest run = run_after (next s e.event) before rest run.2

-- the state before an entry allows its event
pub run-allowed : (s : State) (before rest : List Entry) (e : Entry) (event : Event) → Run s (before ++ e ∷ rest)
    → e.event ≡ event → is_allowed (after s before) event ≡ true
run-allowed s before rest e event run is = rw (← is) (run_after s before (e ∷ rest) run).0

-- and replies so
pub run-replied : (s : State) (before rest : List Entry) (e : Entry) (event : Event) → Run s (before ++ e ∷ rest)
    → e.event ≡ event → e.reply ≡ reply (after s before) event
run-replied s before rest e event run is = rw (← is) (run_after s before (e ∷ rest) run).1

-- ---- a child that is let go of

-- no connection of it is live
pub retired-drained : (s : State) (before rest : List Entry) (e : Entry) (child : ℕ) → Run s (before ++ e ∷ rest)
    → e.event ≡ event.Retire child → list_any (is_live_in child) (after s before).rows ≡ false
retired-drained s before rest e child run is =
    let st = after s before in
    let may : may_retire st child ≡ true = run-allowed s before rest e (event.Retire child) run is in
    not-true (list_any (is_live_in child) st.rows)
    (and_parts (child_passes (λ c. is_stopping c.phase) st child) (not (list_any (is_live_in child) st.rows)) may).1

-- ---- a connection that is taken

-- the chosen child is of the newest generation
chosen-newest : (s : State) (k : ℕ) → IsChosen s k → (child_at s.children k).generation ≡ s.newest
chosen-newest s k chosen =
    let c = child_at s.children k in
    let parts = and_parts (is_running c.phase && c.generation == s.newest)
    (nat_lt (100 * open_count s.rows k) (100 * c.shape.threads + c.shape.factor * idle_in s k)) chosen.admits in
    eqb-true c.generation s.newest (and_parts (is_running c.phase) (c.generation == s.newest) parts.0).1

-- a slot whose row passes a test has a row
row_there : (test : Row → Bool) (o : Option Row) → option_map_or test o false ≡ true → (r : Row) × (o ≡ Some r)
row_there test None passes = absurd (cc)
row_there test (Some r) passes = (r, refl)

-- a row that is found, and has the name, is the row of that name
found_named : (name : ConnName) (o : Option Row) (r : Row) → o ≡ Some r → is_live_as name r ≡ true → row_where (is_live_as name) o ≡ Some r
found_named name o r at named = rw (at, named) refl

-- the row that is taken is live, with the life that the row of the slot had
taken-named : (s : State) (slot : ℕ) (r : Row) → slice_get s.rows slot ≡ Some r
    → is_live_as (record { slot = slot; life = life_at s.rows slot }) (taken_row s r) ≡ true
taken-named s slot r at = rw at (eq-eqb r.life r.life refl)

-- where there is a child that takes connections, the connection is taken for it
taken_by : PicksOne → (s : State) (slot : ℕ) (r : Row) (choice : Option ℕ) → slice_get s.rows slot ≡ Some r → pick_child s ≡ choice
    → is_some choice ≡ true → IsTakenFor s slot (taken_reply s slot)
taken_by law s slot r None at is some = absurd (cc)
taken_by law s slot r (Some k) at is some =
    let chosen = pick_is_chosen law s k is in
    let name : ConnName = record { slot = slot; life = life_at s.rows slot } in
    let child : picked_child s ≡ k = ap (λ (choice : Option ℕ). unwrap_or choice 0) is in
    let newest : (child_at s.children (picked_child s)).generation ≡ s.newest =
    ap (λ (n : ℕ). (child_at s.children n).generation) child ∙ chosen-newest s k chosen in
    record {
      name = name;
      child = k;
      row = taken_row s r;
      replied = rw child (ap (Took name k) (chosen-newest s k chosen));
      in_slot = refl;
      chosen = chosen;
      found =
          found_named name (slice_get (update s.rows slot (taken_row s)) slot) (taken_row s r)
          (get_changed s.rows slot r (taken_row s) at) (taken-named s slot r at);
      of_child = child;
      of_generation = newest;
    }

-- a connection is taken for the chosen child
pub taken-chosen : PicksOne → (s : State) (before rest : List Entry) (e : Entry) (slot : ℕ) → Run s (before ++ e ∷ rest)
    → e.event ≡ event.Accept slot → IsTakenFor (after s before) slot e.reply
taken-chosen law s before rest e slot run is =
    let st = after s before in
    let may : may_accept st slot ≡ true = run-allowed s before rest e (event.Accept slot) run is in
    let parts = and_parts (is_serving st.going && is_vacant_at st slot) (is_some (pick_child st)) may in
    let vacant = (and_parts (is_serving st.going) (is_vacant_at st slot) parts.0).1 in
    let there = row_there (λ r. is_vacant r.place) (slice_get st.rows slot) vacant in
    rw (run-replied s before rest e (event.Accept slot) run is) (taken_by law st slot there.0 (pick_child st) there.1 refl parts.1)

-- ---- the newest generation

-- no command leads back to an older generation
newest-commanded : (s : State) (c : Commanded) → s.newest ≤ (next_command s c).newest
newest-commanded s (Graceful shape) = omega arith
newest-commanded s (Refused reason) = omega arith
newest-commanded s (GracefulStop until) = omega arith
newest-commanded s (Stop reason) = omega arith

-- nor any other event
newest-next : (s : State) (e : Event) → s.newest ≤ (next s e).newest
newest-next s (event.Accept slot) = omega arith
newest-next s (event.Park name kind) = omega arith
newest-next s (event.Hold name) = omega arith
newest-next s (event.Queue name) = omega arith
newest-next s (event.Start name) = omega arith
newest-next s (event.Answer name ask) = omega arith
newest-next s (event.Linger name why) = omega arith
newest-next s (event.Close name why how) = omega arith
newest-next s (event.Ready slot) = omega arith
newest-next s (event.Tick m) = omega arith
newest-next s (event.StartChild k) = omega arith
newest-next s (event.Command c) = newest-commanded s c
newest-next s (event.Retire k) = omega arith

-- nor does a history
newest-after : (s : State) (history : List Entry) → s.newest ≤ (after s history).newest
newest-after s [] = omega arith
newest-after s (e ∷ history) = le_trans (newest-next s e.event) (newest-after (next s e.event) history)

-- a connection that is taken is of the newest generation
taken-newest : PicksOne → (s : State) (before rest : List Entry) (e : Entry) (slot : ℕ) (name : ConnName) (child generation : ℕ)
    → Run s (before ++ e ∷ rest) → e.event ≡ event.Accept slot → e.reply ≡ Took name child generation
    → generation ≡ (after s before).newest
taken-newest law s before rest e slot name child generation run is replied =
    let taken = taken-chosen law s before rest e slot run is in
    let same = taken.replied in
    cc

-- after a graceful restart it is of a newer one than was the newest before
pub taken-newer : PicksOne → (s : State) (before between rest : List Entry) (restart taking : Entry) (shape : Shape) (slot : ℕ) (name : ConnName)
    (child generation : ℕ) → Run s (before ++ restart ∷ between ++ taking ∷ rest) → restart.event ≡ event.Command (Graceful shape)
    → taking.event ≡ event.Accept slot → taking.reply ≡ Took name child generation → (after s before).newest < generation
taken-newer law s before between rest restart taking shape slot name child generation run restarts takes replied =
    let st = after s before in
    let own = taken-newest law s (before ++ restart ∷ between) rest taking slot name child generation run takes replied in
    let there = ap (λ (t : State). t.newest) (after-append s before (restart ∷ between)) in
    let grown = newest-after (next st restart.event) between in
    let more : (next st restart.event).newest ≡ st.newest + 1 = ap (λ (e : Event). (next st e).newest) restarts in
    omega arith
