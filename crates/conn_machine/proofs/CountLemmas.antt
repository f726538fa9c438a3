-- How many rows pass a test, where an event changes one of them.
use Rattle.std.proofs.Common.{◌≡◌, ℕ, zero, suc, ◌+◌, Bool, true, false, not, ◌&&◌, ◌==◌, List, [], ◌∷◌, count_by, cond, replicate, Some, slice_get, refl, ap, ◌∙◌, arith}
use Rattle.std.specs.Prelude.{if◌then◌else◌}
use Rattle.std.proofs.lemmas.Bool.{and_parts}
use Rattle.mpm_base.specs.declared.conn.ConnName.{ConnName}
use Rattle.conn_machine.specs.declared.row.Row.{Row}
use Rattle.conn_machine.specs.declared.event.Event.{Event}
use Rattle.conn_machine.specs.declared.event.Event.TheVariants as event
use Rattle.conn_machine.specs.declared.event.Commanded.{Commanded}
use Rattle.conn_machine.specs.declared.event.Commanded.TheVariants.{Graceful, Refused, GracefulStop, Stop}
use Rattle.conn_machine.specs.declared.state.State.{State}
use Rattle.conn_machine.specs.Lists.{update}
use Rattle.conn_machine.specs.Rows.{is_vacant, is_queued, is_working, is_live, is_lingering, lives_and}
use Rattle.conn_machine.specs.States.{is_halted, is_signalled}
use Rattle.conn_machine.specs.Table.{is_allowed, next, parked_row, may_wait, held_row, may_be_held, queued_row, may_be_queued, served_row, answered_row, linger_cause_fits, lingering_row, greatest_life, closed_row, next_command}
use Rattle.conn_machine.specs.Events.{is_accept, is_close}
use Rattle.conn_machine.proofs.ChangeLaw.{unused-in_phase}
use Rattle.conn_machine.proofs.NameLaw.{vacant_live}
use Rattle.conn_machine.proofs.RowLemmas.{row_of_name}
use Rattle.conn_machine.proofs.UpdateLemmas.{count_cons}

-- ## Counts over a change of one item

-- 1 where the test passes, else 0
abbrev pub one_if : Bool → ℕ
one_if passes = cond passes 1 0

-- the changed item is counted in place of the old one
count_change : {X : Type 0} (p : X → Bool) (xs : List X) (i : ℕ) (x : X) (change : X → X) → slice_get xs i ≡ Some x
    → count_by p (update xs i change) + cond (p x) 1 0 ≡ count_by p xs + cond (p (change x)) 1 0
count_change p [] i x change at = absurd (cc)
count_change p (z ∷ xs) zero x change at =
    let e : z ≡ x = cc in
    rw (e, count_cons p (change x) xs, count_cons p x xs) (omega arith)
count_change p (z ∷ xs) (suc i) x change at =
    rw (count_cons p z (update xs i change), count_cons p z xs) (omega (arith, count_change p xs i x change at))

-- an item that didn't pass before is counted where it passes now
pub comes : {X : Type 0} (p : X → Bool) (xs : List X) (i : ℕ) (x : X) (change : X → X) (b : Bool) → slice_get xs i ≡ Some x
    → p x ≡ false → p (change x) ≡ b → count_by p (update xs i change) ≡ count_by p xs + one_if b
comes p xs i x change b at before now =
    let old : one_if (p x) ≡ 0 = rw before refl in
    let new : one_if (p (change x)) ≡ one_if b = rw now refl in
    omega (arith, old, new, count_change p xs i x change at)

-- one that doesn't pass now was counted where it passed before
pub goes : {X : Type 0} (p : X → Bool) (xs : List X) (i : ℕ) (x : X) (change : X → X) (b : Bool) → slice_get xs i ≡ Some x
    → p x ≡ b → p (change x) ≡ false → count_by p (update xs i change) + one_if b ≡ count_by p xs
goes p xs i x change b at before now =
    let old : one_if (p x) ≡ one_if b = rw before refl in
    let new : one_if (p (change x)) ≡ 0 = rw now refl in
    omega (arith, old, new, count_change p xs i x change at)

-- where no item passes, none is counted
pub count_none : {X : Type 0} (p : X → Bool) (x : X) → p x ≡ false → (n : ℕ) → count_by p (replicate n x) ≡ 0
count_none p x fails zero = refl
count_none p x fails (suc n) = rw (count_cons p x (replicate n x), fails) (omega (arith, count_none p x fails n))

-- ## Rows that are live or aren't

-- a vacant row isn't live
pub not_live : (r : Row) (live : Bool) → is_live r ≡ live → is_vacant r.place ≡ true → live ≡ false
not_live r true is vacant = vacant_live r vacant is
not_live r false is vacant = refl

-- where neither of two rows is live, the one that the test names isn't
neither_live : (x y : Row) (test : Bool) → is_live x ≡ false → is_live y ≡ false → is_live (if test then x else y) ≡ false
neither_live x y true first second = first
neither_live x y false first second = second

-- a row isn't live once its connection is closed
pub closed_row-live : (r : Row) → is_live (closed_row r) ≡ false
closed_row-live r = neither_live _ _ (r.life == greatest_life) refl refl

-- ## Events that neither take nor close a connection

-- the test says the same of two live rows of one arrival
abbrev pub IsSteady : (Row → Bool) → Type 0
IsSteady p = (r r' : Row) → is_live r ≡ true → is_live r' ≡ true → r'.arrival ≡ r.arrival → p r' ≡ p r

-- as many pass after a change of the row of a live connection, to one that is live and of the same arrival
stays : (p : Row → Bool) → IsSteady p → (test : Row → Bool) (rows : List Row) (name : ConnName) (change : Row → Row)
    → lives_and test rows name ≡ true → ((r : Row) → is_live r ≡ true → is_live (change r) ≡ true)
    → ((r : Row) → (change r).arrival ≡ r.arrival) → count_by p (update rows name.slot change) ≡ count_by p rows
stays p steady test rows name change there live arrival =
    let found = row_of_name test rows name there in
    let x = found.row in
    let same : one_if (p (change x)) ≡ one_if (p x) =
    ap one_if (steady x (change x) found.live (live x found.live) (arrival x)) in
    omega (arith, same, count_change p rows name.slot x change found.found)

-- a command leaves the rows
commands : (p : Row → Bool) (s : State) (c : Commanded) → count_by p (next_command s c).rows ≡ count_by p s.rows
commands p s (Graceful shape) = refl
commands p s (Refused reason) = refl
commands p s (GracefulStop until) = refl
commands p s (Stop why) = refl

-- as many pass after an event that is allowed, and is neither Accept nor Close
pub others : (p : Row → Bool) → IsSteady p → (s : State) (e : Event) → is_allowed s e ≡ true → is_accept e ≡ false
    → is_close e ≡ false → count_by p (next s e).rows ≡ count_by p s.rows
others p steady s (event.Accept slot) may none here = absurd (cc)
others p steady s (event.Park name kind) may none here =
    stays p steady (may_wait s.moment kind) s.rows name (parked_row s kind) (and_parts (not (is_halted s.going)) _ may).1
    (λ r live. refl) (λ r. refl)
others p steady s (event.Hold name) may none here =
    stays p steady (may_be_held s (is_signalled s name.slot)) s.rows name held_row may (λ r live. refl) (λ r. refl)
others p steady s (event.Queue name) may none here =
    stays p steady (may_be_queued s) s.rows name queued_row (and_parts (not (is_halted s.going) && is_signalled s name.slot) _ may).1
    (λ r live. refl) (λ r. refl)
others p steady s (event.Start name) may none here =
    stays p steady (λ r. is_queued r.place) s.rows name (served_row s) may (λ r live. refl) (λ r. refl)
others p steady s (event.Answer name ask) may none here =
    stays p steady (λ r. is_working r.place && not r.last) s.rows name (answered_row s name.slot ask) (and_parts (not (is_halted s.going)) _ may).1
    (λ r live. ap not (unused-in_phase _ r.place) ∙ live) (λ r. refl)
others p steady s (event.Linger name why) may none here =
    stays p steady (λ r. not (is_lingering r) && linger_cause_fits s why (is_signalled s name.slot) r) s.rows name (lingering_row s why) may
    (λ r live. refl) (λ r. refl)
others p steady s (event.Close name why how) may none here = absurd (cc)
others p steady s (event.Ready slot) may none here = refl
others p steady s (event.Tick m) may none here = refl
others p steady s (event.StartChild k) may none here = refl
others p steady s (event.Command c) may none here = commands p s c
others p steady s (event.Retire k) may none here = refl
