-- The rings in which slots stand: what an event changes of them, and what stands in each.
use Rattle.std.proofs.Common.{◌≡◌, ◌≢◌, ◌==◌, ◌⊎◌, inl, inr, ℕ, zero, suc, ◌+◌, ◌<◌, ◌≤◌, Bool, true, false, not, ◌&&◌, nat_lt, List, [], ◌∷◌, length, Option, None, Some, IsNone, slice_get, get_or, replicate, refl, sym, ap, subst, ◌∙◌, eqb-true, eq-eqb, get_or-set_other, arith}
use Rattle.std.proofs.Math.ListN.{set, length-set}
use Rattle.std.proofs.lemmas.Bool.{and_from, and_parts, cases_lt, lt-ltb, ltb-true, not-true, not_from_false}
use Rattle.std.proofs.lemmas.List.{get_or_past, length-replicate}
use Rattle.std.proofs.lemmas.Option.{none-some, same_Some, slice_get_within, slice_get-get_or}
use Rattle.mpm_base.specs.declared.conn.ConnName.{ConnName}
use Rattle.mpm_base.specs.declared.conn.Kind.TheVariants.{KeepAlive}
use Rattle.mpm_base.specs.declared.shape.Shape.{Shape}
use Rattle.conn_machine.specs.declared.child.Child.{Child}
use Rattle.conn_machine.specs.declared.event.Commanded.TheVariants.{Graceful, Refused, GracefulStop, Stop}
use Rattle.conn_machine.specs.declared.event.Event.{Event}
use Rattle.conn_machine.specs.declared.event.Event.TheVariants as event
use Rattle.conn_machine.specs.declared.row.Place.{Place}
use Rattle.conn_machine.specs.declared.row.Place.TheVariants.{Parked}
use Rattle.conn_machine.specs.declared.row.Row.{Row}
use Rattle.conn_machine.specs.declared.state.State.{State}
use Rattle.conn_machine.specs.Children.{child_at, is_stopping, no_child}
use Rattle.conn_machine.specs.Lists.{update}
use Rattle.conn_machine.specs.Rows.{carried_count, is_from, is_lingering, is_live, is_live_as, is_parked, lives_and}
use Rattle.conn_machine.specs.States.{child_of, is_signalled, opening_state, unused_row}
use Rattle.conn_machine.specs.Table.{may_be_queued, next, taken_row, parked_row, held_row, queued_row, served_row, answered_row, lingering_row, closed_row}
use Rattle.board_book.specs.FiledInside.{AreFiled, FindsInChild, FindsInRing, refiled_rings, refiled_by, ring_of_child, ring_of_row, slot_of_event}
use Rattle.board_book.specs.Finds.{FindsRow, has_to_be_drained, is_due, is_due_of, is_let_go}
use Rattle.conn_machine.specs.HistoryLaws.{RowsChangeOneAtATime}
use Rattle.board_book.proofs.AlikeLemmas.{get-replicate, get_or-alike}

-- ## One item

-- an item that was set
get-set_same : {X : Type 0} (xs : List X) (i : ℕ) (x : X) → i < length xs → slice_get (set xs i x) i ≡ Some x
get-set_same [] i x below = absurd (omega arith)
get-set_same (y ∷ xs) zero x below = refl
get-set_same (y ∷ xs) (suc i) x below = get-set_same xs i x (omega arith)

-- any other item stays
get-set_other : {X : Type 0} (xs : List X) (i j : ℕ) (x : X) → j ≢ i → slice_get (set xs i x) j ≡ slice_get xs j
get-set_other [] i j x differs = refl
get-set_other (y ∷ xs) zero zero x differs = absurd (differs refl)
get-set_other (y ∷ xs) zero (suc j) x differs = refl
get-set_other (y ∷ xs) (suc i) zero x differs = refl
get-set_other (y ∷ xs) (suc i) (suc j) x differs = get-set_other xs i j x (λ same. differs (ap suc same))

-- ## What an event changes

-- a slot that isn't the one that may have changed has the same row and signal
pub record StaysBut (touched : Option ℕ) (s s' : State) : Type 0 where
  pub rows : (j : ℕ) → touched ≢ Some j → slice_get s'.rows j ≡ slice_get s.rows j
  pub signals : (j : ℕ) → touched ≢ Some j → is_signalled s' j ≡ is_signalled s j

-- where one row changed, the others are the same
rows_but : RowsChangeOneAtATime → (rows : List Row) (slot : ℕ) (change : Row → Row) (j : ℕ) → Some slot ≢ Some j
    → slice_get (update rows slot change) j ≡ slice_get rows j
rows_but law rows slot change j differs = law.others rows slot j change (λ same. differs (ap Some (sym same)))

-- where one signal changed, the others are the same
signals_but : (signals : List Bool) (slot : ℕ) (b : Bool) (j : ℕ) → Some slot ≢ Some j
    → get_or (set signals slot b) j false ≡ get_or signals j false
signals_but signals slot b j differs = get_or-set_other signals slot j b false (λ same. differs (ap Some (sym same)))

-- an event changes the row and the signal of its slot alone
stays_but : RowsChangeOneAtATime → (s : State) (e : Event) → StaysBut (slot_of_event e) s (next s e)
stays_but law s (event.Accept slot) = record {
  rows = rows_but law s.rows slot (taken_row s);
  signals = signals_but s.signals slot false;
}
stays_but law s (event.Park name kind) = record { rows = rows_but law s.rows name.slot (parked_row s kind); signals = λ j differs. refl }
stays_but law s (event.Hold name) = record {
  rows = rows_but law s.rows name.slot held_row;
  signals = signals_but s.signals name.slot _;
}
stays_but law s (event.Queue name) = record {
  rows = rows_but law s.rows name.slot queued_row;
  signals = signals_but s.signals name.slot false;
}
stays_but law s (event.Start name) = record { rows = rows_but law s.rows name.slot (served_row s); signals = λ j differs. refl }
stays_but law s (event.Answer name ask) = record { rows = rows_but law s.rows name.slot (answered_row s name.slot ask); signals = λ j differs. refl }
stays_but law s (event.Linger name why) = record {
  rows = rows_but law s.rows name.slot (lingering_row s why);
  signals = signals_but s.signals name.slot true;
}
stays_but law s (event.Close name why how) = record {
  rows = rows_but law s.rows name.slot closed_row;
  signals = signals_but s.signals name.slot false;
}
stays_but law s (event.Ready slot) = record { rows = λ j differs. refl; signals = signals_but s.signals slot true }
stays_but law s (event.Tick m) = record { rows = λ j differs. refl; signals = λ j differs. refl }
stays_but law s (event.StartChild k) = record { rows = λ j differs. refl; signals = λ j differs. refl }
stays_but law s (event.Command (Graceful shape)) = record { rows = λ j differs. refl; signals = λ j differs. refl }
stays_but law s (event.Command (Refused reason)) = record { rows = λ j differs. refl; signals = λ j differs. refl }
stays_but law s (event.Command (GracefulStop until)) = record { rows = λ j differs. refl; signals = λ j differs. refl }
stays_but law s (event.Command (Stop why)) = record { rows = λ j differs. refl; signals = λ j differs. refl }
stays_but law s (event.Retire k) = record { rows = λ j differs. refl; signals = λ j differs. refl }

-- a slot that stays still stands in the ring of its row
filed_still : (touched : Option ℕ) (s s' : State) (rings : List (Option ℕ)) (j : ℕ) (r : Row) → AreFiled s rings → StaysBut touched s s'
    → touched ≢ Some j → slice_get s'.rows j ≡ Some r → slice_get rings j ≡ Some (ring_of_row (is_signalled s' j) r)
filed_still touched s s' rings j r are stays differs at =
    subst (λ (b : Bool). slice_get rings j ≡ Some (ring_of_row b r)) (sym (stays.signals j differs))
    (are.filed j r (sym (stays.rows j differs) ∙ at))

-- a slot whose row is this stands in its ring, once it was put there, and another one stays
filed_by : (s s' : State) (rings : List (Option ℕ)) (slot : ℕ) (x : Row) (j : ℕ) (r : Row) (same : Bool) → AreFiled s rings
    → slot < length rings → StaysBut (Some slot) s s' → slice_get s'.rows slot ≡ Some x → (j == slot) ≡ same → slice_get s'.rows j ≡ Some r
    → slice_get (set rings slot (ring_of_row (is_signalled s' slot) x)) j ≡ Some (ring_of_row (is_signalled s' j) r)
filed_by s s' rings slot x j r true are below stays here is_same at =
    let e : j ≡ slot = eqb-true j slot is_same in
    let there : slice_get s'.rows slot ≡ Some r = subst (λ (k : ℕ). slice_get s'.rows k ≡ Some r) e at in
    let row : x ≡ r = same_Some x r (sym here ∙ there) in
    subst (λ (k : ℕ). slice_get (set rings slot (ring_of_row (is_signalled s' slot) x)) k ≡ Some (ring_of_row (is_signalled s' k) r)) (sym e)
    (get-set_same rings slot (ring_of_row (is_signalled s' slot) x) below
    ∙ ap (λ (y : Row). Some (ring_of_row (is_signalled s' slot) y)) row)
filed_by s s' rings slot x j r false are below stays here other at =
    let differs : j ≢ slot = (λ (e : j ≡ slot). let eq : (j == slot) ≡ true = eq-eqb j slot e in cc) in
    get-set_other rings slot j (ring_of_row (is_signalled s' slot) x) differs
    ∙ filed_still (Some slot) s s' rings j r are stays (λ e. differs (sym (same_Some slot j e))) at

-- the same, where there may be no such row
filed_if : (s s' : State) (rings : List (Option ℕ)) (slot : ℕ) (o : Option Row) → AreFiled s rings → length s'.rows ≡ length s.rows
    → StaysBut (Some slot) s s' → slice_get s'.rows slot ≡ o → AreFiled s' (refiled_by s' slot rings o)
filed_if s s' rings slot None are sizes stays here = record {
  slots = are.slots ∙ sym sizes;
  filed = λ j r at.
      filed_still (Some slot) s s' rings j r are stays
      (λ e. none-some r (sym here ∙ ap (λ (k : ℕ). slice_get s'.rows k) (same_Some slot j e) ∙ at)) at;
}
filed_if s s' rings slot (Some x) are sizes stays here =
    let below : slot < length rings = omega (arith, slice_get_within s'.rows slot x here, are.slots, sizes) in
    record {
      slots = length-set rings slot (ring_of_row (is_signalled s' slot) x) ∙ are.slots ∙ sym sizes;
      filed = λ j r at. filed_by s s' rings slot x j r (j == slot) are below stays here refl at;
    }

-- each slot stands in the ring of its row, once the one that may have changed was filed again
filed_again : (touched : Option ℕ) (s s' : State) (rings : List (Option ℕ)) → AreFiled s rings → length s'.rows ≡ length s.rows
    → StaysBut touched s s' → AreFiled s' (refiled_rings s' rings touched)
filed_again None s s' rings are sizes stays = record {
  slots = are.slots ∙ sym sizes;
  filed = λ j r at. filed_still None s s' rings j r are stays (λ e. none-some j e) at;
}
filed_again (Some slot) s s' rings are sizes stays =
    filed_if s s' rings slot (slice_get s'.rows slot) are sizes stays refl

-- so it does after an event, once that of its slot was
pub filed_on : RowsChangeOneAtATime → (s s' : State) (e : Event) (rings rings' : List (Option ℕ)) (touched : Option ℕ) → AreFiled s rings → s' ≡ next s e
    → length s'.rows ≡ length s.rows → touched ≡ slot_of_event e → rings' ≡ refiled_rings s' rings touched → AreFiled s' rings'
filed_on law s s' e rings rings' touched are state_is sizes slot_is rings_is =
    let stays : StaysBut (slot_of_event e) s s' = subst (StaysBut (slot_of_event e) s) (sym state_is) (stays_but law s e) in
    subst (AreFiled s') (sym rings_is)
    (filed_again touched s s' rings are sizes (subst (λ (o : Option ℕ). StaysBut o s s') (sym slot_is) stays))

-- ## The opening state

-- at first no row waits, so no slot stands in a ring
pub filed_first : (slots children : ℕ) (shape : Shape) (rings : List (Option ℕ)) → rings ≡ replicate slots None → AreFiled (opening_state slots children shape) rings
filed_first slots children shape rings are = record {
  slots = ap length are ∙ length-replicate slots None ∙ sym (length-replicate slots unused_row);
  filed = λ j r at.
      let same : unused_row ≡ r = get-replicate slots j unused_row r at in
      let none : List (Option ℕ) = replicate slots None in
      let below : j < length none =
      omega (arith, slice_get_within (replicate slots unused_row) j r at, length-replicate slots unused_row, length-replicate {A = Option ℕ} slots None) in
      ap (λ (os : List (Option ℕ)). slice_get os j) are ∙ slice_get-get_or none j None below ∙ ap Some (get_or-alike {X = Option ℕ} slots j None)
      ∙ ap (λ (x : Row). Some (ring_of_row (is_signalled (opening_state slots children shape) j) x)) same;
}

-- ## What stands in a ring

-- what isn't true is false
not_so : (b : Bool) → (b ≡ true → ⊥) → b ≡ false
not_so true never = absurd (never refl)
not_so false never = refl

-- a place where a connection waits has a connection
parked-live : (r : Row) (p : Place) → r.place ≡ p → is_parked p ≡ true → is_live r ≡ true
parked-live r (Parked kind) at parked = rw at refl
parked-live r p at parked = absurd (cc)

-- the ring of a row that waits for service, and is signalled
ring-for_service : (r : Row) (k : ℕ) → k < 32 → is_parked r.place ≡ true → is_lingering r ≡ false → r.child ≡ k → ring_of_row true r ≡ Some (0 + k)
ring-for_service r k few parked stays own =
    let below : nat_lt r.child 32 ≡ true = lt-ltb r.child 32 (omega (arith, few, own)) in
    rw (parked, stays, below) (ap (λ (n : ℕ). Some (0 + n)) own)

-- the ring of a row that waits for a further request, and isn't signalled
ring-for_more : (r : Row) (k : ℕ) → k < 32 → is_parked r.place ≡ true → is_from KeepAlive r ≡ true → r.child ≡ k → ring_of_row false r ≡ Some (32 + k)
ring-for_more r k few parked from own =
    let below : nat_lt r.child 32 ≡ true = lt-ltb r.child 32 (omega (arith, few, own)) in
    rw (parked, from, below) (ap (λ (n : ℕ). Some (32 + n)) own)

-- the ring of a lingering row that is signalled
ring-to_drain : (r : Row) → is_parked r.place ≡ true → is_lingering r ≡ true → ring_of_row true r ≡ Some 64
ring-to_drain r parked lingers =
    rw (parked, lingers) refl

-- the ring of a child, where it is this
child_ring : (first k ring : ℕ) (below : Bool) → nat_lt k 32 ≡ below → ring_of_child first k ≡ Some ring → (k < 32) × (ring ≡ first + k)
child_ring first k ring true is at =
    let e : Some (first + k) ≡ Some ring = rw is at at in
    (ltb-true k 32 is, sym (same_Some (first + k) ring e))
child_ring first k ring false is at =
    let e : None ≡ Some ring = rw is at at in
    absurd (none-some ring e)

-- what is known of a row by its ring: it waits
pub record IsOfRing (b : Bool) (r : Row) (ring : ℕ) : Type 0 where
  pub parked : is_parked r.place ≡ true
  pub signalled : (ring < 32 → b ≡ true) × (ring ≡ 64 → b ≡ true)
  pub unsignalled : 32 ≤ ring → ring < 64 → b ≡ false
  pub stays : ring < 32 → is_lingering r ≡ false
  pub lingers : ring ≡ 64 → is_lingering r ≡ true
  pub from : 32 ≤ ring → ring < 64 → is_from KeepAlive r ≡ true
  pub own : ring < 32 → r.child ≡ ring
  pub own_more : 32 ≤ ring → ring < 64 → r.child + 32 ≡ ring

-- so it is, whatever of it holds
of_ring_by : (b : Bool) (r : Row) (ring : ℕ) (p l f : Bool) → is_parked r.place ≡ p → is_lingering r ≡ l
    → is_from KeepAlive r ≡ f → ring_of_row b r ≡ Some ring → IsOfRing b r ring
of_ring_by b r ring false l f is_p is_l is_f at =
    let e : None ≡ Some ring = rw is_p at at in
    absurd (none-some ring e)
of_ring_by true r ring true true f is_p is_l is_f at =
    let e : Some 64 ≡ Some ring = rw is_l at (rw is_p at at) in
    let is : 64 ≡ ring = same_Some 64 ring e in
    record {
      parked = is_p;
      signalled = (λ low. refl, λ same. refl);
      unsignalled = λ low high. absurd (omega (arith, is, high));
      stays = λ low. absurd (omega (arith, is, low));
      lingers = λ same. is_l;
      from = λ low high. absurd (omega (arith, is, high));
      own = λ low. absurd (omega (arith, is, low));
      own_more = λ low high. absurd (omega (arith, is, high));
    }
of_ring_by true r ring true false f is_p is_l is_f at =
    let e : ring_of_child 0 r.child ≡ Some ring = rw is_l at (rw is_p at at) in
    let child = child_ring 0 r.child ring (nat_lt r.child 32) refl e in
    let few : r.child < 32 = child.0 in
    let is : ring ≡ 0 + r.child = child.1 in
    record {
      parked = is_p;
      signalled = (λ low. refl, λ same. refl);
      unsignalled = λ low high. absurd (omega (arith, few, is, low));
      stays = λ low. is_l;
      lingers = λ other. absurd (omega (arith, few, is, other));
      from = λ low high. absurd (omega (arith, few, is, low));
      own = λ low. omega (arith, is);
      own_more = λ low high. absurd (omega (arith, few, is, low));
    }
of_ring_by false r ring true l true is_p is_l is_f at =
    let e : ring_of_child 32 r.child ≡ Some ring = rw is_f at (rw is_p at at) in
    let child = child_ring 32 r.child ring (nat_lt r.child 32) refl e in
    let few : r.child < 32 = child.0 in
    let is : ring ≡ 32 + r.child = child.1 in
    record {
      parked = is_p;
      signalled = (λ low. absurd (omega (arith, is, low)), λ other. absurd (omega (arith, few, is, other)));
      unsignalled = λ low high. refl;
      stays = λ low. absurd (omega (arith, is, low));
      lingers = λ other. absurd (omega (arith, few, is, other));
      from = λ low high. is_f;
      own = λ low. absurd (omega (arith, is, low));
      own_more = λ low high. omega (arith, is);
    }
of_ring_by false r ring true l false is_p is_l is_f at =
    let e : None ≡ Some ring = rw is_f at (rw is_p at at) in
    absurd (none-some ring e)

-- what is known of a row by its ring
of_ring : (b : Bool) (r : Row) (ring : ℕ) → ring_of_row b r ≡ Some ring → IsOfRing b r ring
of_ring b r ring at =
    of_ring_by b r ring (is_parked r.place) (is_lingering r) (is_from KeepAlive r) refl refl refl at

-- ## A slot that is found

-- ## A connection that is found

-- a row that waits is the live one of its name
pub waiting_lives : (rows : List Row) (name : ConnName) (r : Row) (test : Row → Bool) → slice_get rows name.slot ≡ Some r → r.life ≡ name.life
    → is_parked r.place ≡ true → test r ≡ true → lives_and test rows name ≡ true
waiting_lives rows name r test at life parked passes =
    let live = parked-live r r.place refl parked in
    let named : is_live_as name r ≡ true = rw (live, eq-eqb r.life name.life life) refl in
    rw at (rw named passes)

-- what a row is that is due
pub record IsDueRow (s : State) (slot : ℕ) (r : Row) : Type 0 where
  pub signalled : is_signalled s slot ≡ true
  pub parked : is_parked r.place ≡ true
  pub stays : is_lingering r ≡ false
  pub free : nat_lt (carried_count s.rows r.child) (child_of s r).shape.threads ≡ true

-- a row that is due is so
due_row : (s : State) (slot : ℕ) (r : Row) → is_due s slot r ≡ true → IsDueRow s slot r
due_row s slot r due =
    let both = and_parts (is_signalled s slot) (may_be_queued s r) due in
    let parts = and_parts (is_parked r.place && not (is_lingering r)) (nat_lt (carried_count s.rows r.child) (child_of s r).shape.threads) both.1 in
    let waits = and_parts (is_parked r.place) (not (is_lingering r)) parts.0 in
    record { signalled = both.0; parked = waits.0; stays = not-true (is_lingering r) waits.1; free = parts.1 }

-- what a row is that is let go of
pub record IsRowLetGo (s : State) (slot : ℕ) (r : Row) : Type 0 where
  pub parked : is_parked r.place ≡ true
  pub from : is_from KeepAlive r ≡ true
  pub stops : is_stopping (child_of s r).phase ≡ true
  pub unsignalled : is_signalled s slot ≡ false

-- a row that is let go of is so
row_let_go : (s : State) (slot : ℕ) (r : Row) → is_let_go s slot r ≡ true → IsRowLetGo s slot r
row_let_go s slot r go =
    let all = and_parts (is_parked r.place && is_from KeepAlive r && is_stopping (child_of s r).phase) (not (is_signalled s slot)) go in
    let stops = and_parts (is_parked r.place && is_from KeepAlive r) (is_stopping (child_of s r).phase) all.0 in
    let waits = and_parts (is_parked r.place) (is_from KeepAlive r) stops.0 in
    record { parked = waits.0; from = waits.1; stops = stops.1; unsignalled = not-true (is_signalled s slot) all.1 }

-- where no row is found of those for service, none of the child is due
pub due_none : (s : State) (k : ℕ) → k < 32 → FindsInRing s (0 + k) None → FindsInChild (is_due s) k s None
due_none s k few none = λ slot r at own.
    not_so (is_due s slot r) (λ due.
    let row = due_row s slot r due in
    none slot r at (ap (λ (b : Bool). ring_of_row b r) row.signalled ∙ ring-for_service r k few row.parked row.stays own))

-- where a worker of the child is free, the row that is found of those for service is due
pub due_found : (s : State) (k : ℕ) (name : ConnName) → k < 32 → carried_count s.rows k < (child_at s.children k).shape.threads
    → FindsInRing s (0 + k) (Some name) → FindsInChild (is_due s) k s (Some name)
due_found s k name few free is =
    let of = of_ring (is_signalled s name.slot) is.row (0 + k) is.ring_is in
    let low : 0 + k < 32 = omega (arith, few) in
    let parked = of.parked in
    let own : is.row.child ≡ k = of.own low ∙ omega arith in
    let free' : nat_lt (carried_count s.rows is.row.child) (child_of s is.row).shape.threads ≡ true =
    subst (λ (j : ℕ). nat_lt (carried_count s.rows j) (child_at s.children j).shape.threads ≡ true) (sym own)
    (lt-ltb (carried_count s.rows k) (child_at s.children k).shape.threads free) in
    waiting_lives s.rows name is.row (is_due s name.slot) is.found is.life parked
    (and_from (is_signalled s name.slot) (may_be_queued s is.row) (of.signalled.0 low)
    (and_from (is_parked is.row.place && not (is_lingering is.row)) (nat_lt (carried_count s.rows is.row.child) (child_of s is.row).shape.threads)
    (and_from (is_parked is.row.place) (not (is_lingering is.row)) parked (not_from_false (is_lingering is.row) (of.stays low))) free'))

-- the row that is found of those of a child for service is due, but that no worker need be free
pub due_of_found : (s : State) (k : ℕ) (o : Option ConnName) → k < 32 → FindsInRing s (0 + k) o → FindsRow (is_due_of k s) s o
due_of_found s k None few none = λ slot r at.
    not_so (is_due_of k s slot r) (λ due.
    let all = and_parts (r.child == k && is_signalled s slot && is_parked r.place) (not (is_lingering r)) due in
    let waits = and_parts (r.child == k && is_signalled s slot) (is_parked r.place) all.0 in
    let asks = and_parts (r.child == k) (is_signalled s slot) waits.0 in
    none slot r at (ap (λ (b : Bool). ring_of_row b r) asks.1
    ∙ ring-for_service r k few waits.1 (not-true (is_lingering r) all.1) (eqb-true r.child k asks.0)))
due_of_found s k (Some name) few is =
    let of = of_ring (is_signalled s name.slot) is.row (0 + k) is.ring_is in
    let low : 0 + k < 32 = omega (arith, few) in
    let parked = of.parked in
    let own : is.row.child ≡ k = of.own low ∙ omega arith in
    waiting_lives s.rows name is.row (is_due_of k s name.slot) is.found is.life parked
    (and_from (is.row.child == k && is_signalled s name.slot && is_parked is.row.place) (not (is_lingering is.row))
    (and_from (is.row.child == k && is_signalled s name.slot) (is_parked is.row.place)
    (and_from (is.row.child == k) (is_signalled s name.slot) (eq-eqb is.row.child k own) (of.signalled.0 low)) parked)
    (not_from_false (is_lingering is.row) (of.stays low)))

-- where the child stops, the row that is found of those for a further request is let go of
pub go_found : (s : State) (k : ℕ) (o : Option ConnName) → k < 32 → is_stopping (child_at s.children k).phase ≡ true
    → FindsInRing s (32 + k) o → FindsInChild (is_let_go s) k s o
go_found s k None few stops none = λ slot r at own.
    not_so (is_let_go s slot r) (λ go.
    let row = row_let_go s slot r go in
    none slot r at (ap (λ (b : Bool). ring_of_row b r) row.unsignalled ∙ ring-for_more r k few row.parked row.from own))
go_found s k (Some name) few stops is =
    let of = of_ring (is_signalled s name.slot) is.row (32 + k) is.ring_is in
    let low : 32 ≤ 32 + k = omega arith in
    let high : 32 + k < 64 = omega (arith, few) in
    let parked = of.parked in
    let own : is.row.child ≡ k = omega (arith, of.own_more low high) in
    let stops' : is_stopping (child_of s is.row).phase ≡ true =
    subst (λ (j : ℕ). is_stopping (child_at s.children j).phase ≡ true) (sym own) stops in
    waiting_lives s.rows name is.row (is_let_go s name.slot) is.found is.life parked
    (and_from (is_parked is.row.place && is_from KeepAlive is.row && is_stopping (child_of s is.row).phase) (not (is_signalled s name.slot))
    (and_from (is_parked is.row.place && is_from KeepAlive is.row) (is_stopping (child_of s is.row).phase)
    (and_from (is_parked is.row.place) (is_from KeepAlive is.row) parked (of.from low high)) stops')
    (not_from_false (is_signalled s name.slot) (of.unsignalled low high)))

-- the row that is found of those that linger has to be drained
pub drain_found : (s : State) (o : Option ConnName) → FindsInRing s 64 o → FindsRow (has_to_be_drained s) s o
drain_found s None none = λ slot r at.
    not_so (has_to_be_drained s slot r) (λ drained.
    let all = and_parts (is_parked r.place && is_lingering r) (is_signalled s slot) drained in
    let waits = and_parts (is_parked r.place) (is_lingering r) all.0 in
    none slot r at (ap (λ (b : Bool). ring_of_row b r) all.1 ∙ ring-to_drain r waits.0 waits.1))
drain_found s (Some name) is =
    let r = is.row in
    let of = of_ring (is_signalled s name.slot) r 64 is.ring_is in
    let parked = of.parked in
    waiting_lives s.rows name is.row (has_to_be_drained s name.slot) is.found is.life parked
    (and_from (is_parked is.row.place && is_lingering is.row) (is_signalled s name.slot)
    (and_from (is_parked is.row.place) (is_lingering is.row) parked (of.lingers refl)) (of.signalled.1 refl))

-- ## A walk over the children

-- no row of a child below n passes
abbrev pub FailsInChildren : (ℕ → Row → Bool) → State → ℕ → Type 0
FailsInChildren test s n = (slot : ℕ) (r : Row) → slice_get s.rows slot ≡ Some r → r.child < n → test slot r ≡ false

-- where no row of the child n passes either, one child more has none
pub fails_in_more : (test : ℕ → Row → Bool) (s : State) (n : ℕ) → FailsInChildren test s n → FindsInChild test n s None → FailsInChildren test s (n + 1)
fails_in_more test s n before none slot r at below = elim (cases_lt r.child n) [
  | inl less ↦ before slot r at less
  | inr past ↦ none slot r at (omega (arith, past, below))
]

-- a number that no child has stands for a child that was never started
beyond : (s : State) (r : Row) → length s.children ≤ r.child → child_of s r ≡ no_child
beyond s r past = get_or_past s.children r.child no_child past

-- so no row of it is due
pub due_beyond : (s : State) (slot : ℕ) (r : Row) → length s.children ≤ r.child → is_due s slot r ≡ false
due_beyond s slot r past =
    not_so (is_due s slot r) (λ due.
    let free : nat_lt (carried_count s.rows r.child) no_child.shape.threads ≡ true =
    subst (λ (c : Child). nat_lt (carried_count s.rows r.child) c.shape.threads ≡ true) (beyond s r past) (due_row s slot r due).free in
    absurd (omega (arith, ltb-true (carried_count s.rows r.child) no_child.shape.threads free)))

-- and none is let go of
pub go_beyond : (s : State) (slot : ℕ) (r : Row) → length s.children ≤ r.child → is_let_go s slot r ≡ false
go_beyond s slot r past =
    not_so (is_let_go s slot r) (λ go.
    let stops : is_stopping no_child.phase ≡ true =
    subst (λ (c : Child). is_stopping c.phase ≡ true) (beyond s r past) (row_let_go s slot r go).stops in
    cc)

-- the name is that of a live connection whose row passes, or no row of a child below n passes
abbrev pub FindsBelow : (ℕ → Row → Bool) → State → ℕ → Option ConnName → Type 0
FindsBelow test s n None = FailsInChildren test s n
FindsBelow test s n (Some name) = lives_and (test name.slot) s.rows name ≡ true

-- what was found so far, or of the child n, is found of one child more
pub finds_more : (test : ℕ → Row → Bool) (s : State) (n : ℕ) (one other of_both : Option ConnName) → FindsBelow test s n one → FindsInChild test n s other
    → (of_both ≡ one) ⊎ (of_both ≡ other) → (IsNone of_both → IsNone one × IsNone other) → FindsBelow test s (n + 1) of_both
finds_more test s n None None None before of either none = fails_in_more test s n before of
finds_more test s n (Some name) other None before of either none = let no : true ≡ false = (none refl).0 in absurd (cc)
finds_more test s n None (Some name) None before of either none = let no : true ≡ false = (none refl).1 in absurd (cc)
finds_more test s n one other (Some name) before of either none = elim either [
  | inl e ↦ subst (FindsBelow test s n) (sym e) before
  | inr e ↦ subst (FindsInChild test n s) (sym e) of
]

-- where no row of any child passes, nor one of a number beyond them, none does
pub fails_in_all : (test : ℕ → Row → Bool) (s : State) (n : ℕ) → FailsInChildren test s n → length s.children ≤ n
    → ((slot : ℕ) (r : Row) → length s.children ≤ r.child → test slot r ≡ false) → FindsRow test s None
fails_in_all test s n before all past slot r at = elim (cases_lt r.child n) [
  | inl less ↦ before slot r at less
  | inr over ↦ past slot r (omega (arith, all, over))
]

-- what is found below all children is found of all rows
pub finds_in_all : (test : ℕ → Row → Bool) (s : State) (n : ℕ) (o : Option ConnName) → FindsBelow test s n o → length s.children ≤ n
    → ((slot : ℕ) (r : Row) → length s.children ≤ r.child → test slot r ≡ false) → FindsRow test s o
finds_in_all test s n None before all past = fails_in_all test s n before all past
finds_in_all test s n (Some name) before all past = before
