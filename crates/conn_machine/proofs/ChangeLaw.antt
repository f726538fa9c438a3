-- What an event may change of a row.
use Rattle.std.proofs.Common.{◌≡◌, ℕ, zero, suc, ◌+◌, Bool, true, false, not, ◌&&◌, ◌||◌, ◌==◌, List, [], ◌∷◌, ◌++◌, Option, Some, None, slice_get, refl, ap, ◌∙◌, subst}
use Rattle.std.specs.Prelude.{if◌then◌else◌}
use Rattle.std.specs.Option.{option_map_or, is_some}
use Rattle.std.proofs.lemmas.Bool.{and_parts, eqb-true, not-true}
use Rattle.mpm_base.specs.declared.conn.ConnName.{ConnName}
use Rattle.mpm_base.specs.declared.conn.Ask.{Ask}
use Rattle.mpm_base.specs.declared.note.Note.{Note}
use Rattle.conn_machine.specs.declared.row.Phase.{Phase}
use Rattle.conn_machine.specs.declared.row.Place.{Place}
use Rattle.conn_machine.specs.declared.row.Place.TheVariants.{Vacant, Spent, Held, Parked, Queued, Working}
use Rattle.conn_machine.specs.declared.row.Row.{Row}
use Rattle.conn_machine.specs.declared.event.Commanded.{Commanded}
use Rattle.conn_machine.specs.declared.event.Commanded.TheVariants.{Graceful, Refused, GracefulStop, Stop}
use Rattle.conn_machine.specs.declared.event.Event.{Event}
use Rattle.conn_machine.specs.declared.event.Event.TheVariants as event
use Rattle.conn_machine.specs.declared.state.State.{State}
use Rattle.conn_machine.specs.Lists.{update}
use Rattle.conn_machine.specs.Rows.{is_vacant, is_unused, is_held, is_queued, is_working, in_phase, is_live, is_lingering, is_live_as, row_where, row_passes, lives_and}
use Rattle.conn_machine.specs.States.{is_serving, is_halted, is_signalled, pick_child}
use Rattle.conn_machine.specs.Table.{is_allowed, next, may_accept, next_accept, is_vacant_at, taken_row, may_wait, parked_row, may_be_held, held_row, may_be_queued, queued_row, served_row, may_answer, next_answer, note_for, answered_row, linger_cause_fits, lingering_row, greatest_life, closed_row, end_fits, next_command}

-- what an event makes of a row: it is as it was; a live one goes on, or has one more response; a vacant one is taken, and has no wait; a
-- live one is closed, so that its slot has a next life or is given no more
pub data Change (r r' : Row) : Type 0 where
  stays : r' ≡ r → Change r r'
  goes_on : is_live r ≡ true → is_live r' ≡ true → r'.life ≡ r.life → r'.notes ≡ r.notes → Change r r'
  answered : (note : Note) → is_live r ≡ true → is_live r' ≡ true → r.last ≡ false → r'.life ≡ r.life
      → r'.notes ≡ r.notes ++ note ∷ [] → Change r r'
  taken : is_vacant r.place ≡ true → is_live r' ≡ true → r'.life ≡ r.life → r'.waits ≡ [] → Change r r'
  closed : is_live r ≡ true → is_vacant r'.place ≡ true → r'.life ≡ r.life + 1 → Change r r'
  spent : is_live r ≡ true → r'.place ≡ Spent → Change r r'

-- the row of the slot was made of one of these rows
pub record IsMade (rows : List Row) (slot : ℕ) (r' : Row) : Type 0 where
  pub old : Row
  pub at : slice_get rows slot ≡ Some old
  pub change : Change old r'

-- a row of a list is made of itself
made_same : (rows : List Row) (slot : ℕ) (r : Row) → slice_get rows slot ≡ Some r → IsMade rows slot r
made_same rows slot r at = record { old = r; at = at; change = stays refl }

-- a row that isn't of the first slot stands in the rest
made_later : (x : Row) (rows : List Row) (slot : ℕ) (r : Row) → IsMade rows slot r → IsMade (x ∷ rows) (suc slot) r
made_later x rows slot r made = record { old = made.old; at = made.at; change = made.change }

-- a change of one row makes a row of the slot of another
made_by : (change : Row → Row) (rows : List Row) (i slot : ℕ) (r' : Row)
    → ((r : Row) → slice_get rows i ≡ Some r → Change r (change r)) → slice_get (update rows i change) slot ≡ Some r' → IsMade rows slot r'
made_by change [] i slot r' may at = absurd (cc)
made_by change (x ∷ rows) zero zero r' may at =
    let e : change x ≡ r' = cc in
    record { old = x; at = refl; change = subst (λ (y : Row). Change x y) e (may x refl) }
made_by change (x ∷ rows) zero (suc slot) r' may at = made_same (x ∷ rows) (suc slot) r' at
made_by change (x ∷ rows) (suc i) zero r' may at = made_same (x ∷ rows) zero r' at
made_by change (x ∷ rows) (suc i) (suc slot) r' may at = made_later x rows slot r' (made_by change rows i slot r' may at)

-- ## What an event needs of its row

-- the row is live, with the life of the name, and passes
pub record IsMet (name : ConnName) (test : Row → Bool) (r : Row) : Type 0 where
  pub live : is_live r ≡ true
  pub life : r.life ≡ name.life
  pub passes : test r ≡ true

-- a row that is found and passes has the name
met_where : (test : Row → Bool) (r : Row) (named : Bool)
    → option_map_or test (if named then Some r else None) false ≡ true → (named ≡ true) × (test r ≡ true)
met_where test r true met = (refl, met)
met_where test r false met = absurd (cc)

-- a row that has the name and passes
met_named : (name : ConnName) (test : Row → Bool) (r : Row) → (is_live_as name r ≡ true) × (test r ≡ true) → IsMet name test r
met_named name test r met =
    let parts = and_parts (is_live r) (r.life == name.life) met.0 in
    record { live = parts.0; life = eqb-true r.life name.life parts.1; passes = met.1 }

-- the row of the slot, where the connection of that name lives and passes
pub is_met : (name : ConnName) (test : Row → Bool) (rows : List Row) (r : Row) → lives_and test rows name ≡ true
    → slice_get rows name.slot ≡ Some r → IsMet name test r
is_met name test rows r lives at =
    met_named name test r (met_where test r (is_live_as name r)
    (subst (λ (o : Option Row). option_map_or test (row_where (is_live_as name) o) false ≡ true) at lives))

-- the row of the slot, where it passes
met_at : (test : Row → Bool) (rows : List Row) (slot : ℕ) (r : Row) → row_passes test rows slot ≡ true → slice_get rows slot ≡ Some r
    → test r ≡ true
met_at test rows slot r passes at = subst (λ (o : Option Row). option_map_or test o false ≡ true) at passes

-- ## What each event makes of a row

-- a change that keeps a live row live, with its life and its notes
made_live : (name : ConnName) (test : Row → Bool) (rows : List Row) (change : Row → Row) (slot : ℕ) (r' : Row)
    → lives_and test rows name ≡ true → ((r : Row) → is_live (change r) ≡ true) → ((r : Row) → (change r).life ≡ r.life)
    → ((r : Row) → (change r).notes ≡ r.notes) → slice_get (update rows name.slot change) slot ≡ Some r' → IsMade rows slot r'
made_live name test rows change slot r' lives live life notes at =
    made_by change rows name.slot slot r'
    (λ r there. goes_on (is_met name test rows r lives there).live (live r) (life r) (notes r)) at

-- an accept makes rows of the rows that stood there
made_taken : (s : State) (i slot : ℕ) (r' : Row) → may_accept s i ≡ true → slice_get (next_accept s i).rows slot ≡ Some r'
    → IsMade s.rows slot r'
made_taken s i slot r' may at =
    let vacant : is_vacant_at s i ≡ true =
    (and_parts (is_serving s.going) (is_vacant_at s i) (and_parts (is_serving s.going && is_vacant_at s i) (is_some (pick_child s)) may).0).1 in
    made_by (taken_row s) s.rows i slot r' (λ r there. taken (met_at (λ x. is_vacant x.place) s.rows i r vacant there) refl refl refl) at

-- a place in another phase of its service is used as before
pub unused-in_phase : (phase : Phase) (place : Place) → is_unused (in_phase phase place) ≡ is_unused place
unused-in_phase phase Vacant = refl
unused-in_phase phase Spent = refl
unused-in_phase phase Held = refl
unused-in_phase phase (Parked kind) = refl
unused-in_phase phase Queued = refl
unused-in_phase phase (Working cell before) = refl

-- a response is one more
change_answered : (s : State) (name : ConnName) (ask : Ask) (r : Row) → IsMet name (λ x. is_working x.place && not x.last) r
    → Change r (answered_row s name.slot ask r)
change_answered s name ask r met =
    answered (note_for s name.slot ask r) met.live (ap not (unused-in_phase _ r.place) ∙ met.live)
    (not-true r.last (and_parts (is_working r.place) (not r.last) met.passes).1) refl refl

-- a response makes rows of the rows that stood there
made_answered : (s : State) (name : ConnName) (ask : Ask) (slot : ℕ) (r' : Row) → may_answer s name ≡ true
    → slice_get (next_answer s name ask).rows slot ≡ Some r' → IsMade s.rows slot r'
made_answered s name ask slot r' may at =
    let lives = (and_parts (not (is_halted s.going)) _ may).1 in
    made_by (answered_row s name.slot ask) s.rows name.slot slot r'
    (λ r there. change_answered s name ask r (is_met name (λ x. is_working x.place && not x.last) s.rows r lives there)) at

-- a change to either of two rows is a change to the one that the test names
change_either : (r x y : Row) (test : Bool) → Change r x → Change r y → Change r (if test then x else y)
change_either r x y true first second = first
change_either r x y false first second = second

-- a close ends the life, or the slot's use
change_closed : (r : Row) → is_live r ≡ true → Change r (closed_row r)
change_closed r live = change_either r _ _ (r.life == greatest_life) (spent live refl) (closed live refl refl)

-- a command leaves the rows
made_commanded : (s : State) (c : Commanded) (slot : ℕ) (r' : Row) → slice_get (next_command s c).rows slot ≡ Some r' → IsMade s.rows slot r'
made_commanded s (Graceful shape) slot r' at = made_same s.rows slot r' at
made_commanded s (Refused reason) slot r' at = made_same s.rows slot r' at
made_commanded s (GracefulStop until) slot r' at = made_same s.rows slot r' at
made_commanded s (Stop reason) slot r' at = made_same s.rows slot r' at

-- each row after an allowed event was made of the row that stood there
pub is_made : (s : State) (e : Event) (slot : ℕ) (r' : Row) → is_allowed s e ≡ true → slice_get (next s e).rows slot ≡ Some r' → IsMade s.rows slot r'
is_made s (event.Accept i) slot r' may at = made_taken s i slot r' may at
is_made s (event.Park name kind) slot r' may at =
    made_live name (may_wait s.moment kind) s.rows (parked_row s kind) slot r' (and_parts (not (is_halted s.going)) _ may).1
    (λ r. refl) (λ r. refl) (λ r. refl) at
is_made s (event.Hold name) slot r' may at =
    made_live name (may_be_held s (is_signalled s name.slot)) s.rows held_row slot r' may (λ r. refl) (λ r. refl) (λ r. refl) at
is_made s (event.Queue name) slot r' may at =
    made_live name (may_be_queued s) s.rows queued_row slot r'
    (and_parts (not (is_halted s.going) && is_signalled s name.slot) _ may).1 (λ r. refl) (λ r. refl) (λ r. refl) at
is_made s (event.Start name) slot r' may at =
    made_live name (λ r. is_queued r.place) s.rows (served_row s) slot r' may (λ r. refl) (λ r. refl) (λ r. refl) at
is_made s (event.Answer name ask) slot r' may at = made_answered s name ask slot r' may at
is_made s (event.Linger name why) slot r' may at =
    made_live name (λ r. not (is_lingering r) && linger_cause_fits s why (is_signalled s name.slot) r) s.rows (lingering_row s why) slot r' may
    (λ r. refl) (λ r. refl) (λ r. refl) at
is_made s (event.Close name why how) slot r' may at =
    made_by closed_row s.rows name.slot slot r'
    (λ r there. change_closed r (is_met name (λ x. (is_held x.place || is_working x.place) && end_fits s why how x) s.rows r may there).live) at
is_made s (event.Ready i) slot r' may at = made_same s.rows slot r' at
is_made s (event.Tick m) slot r' may at = made_same s.rows slot r' at
is_made s (event.StartChild k) slot r' may at = made_same s.rows slot r' at
is_made s (event.Command c) slot r' may at = made_commanded s c slot r' at
is_made s (event.Retire k) slot r' may at = made_same s.rows slot r' at
