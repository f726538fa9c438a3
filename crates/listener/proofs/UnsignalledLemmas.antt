-- Where nothing is left to be done no row that waits is signalled.
use Rattle.std.proofs.Common.{◌≡◌, ℕ, ◌≤◌, ◌==◌, Bool, true, false, not, List, [], ◌∷◌, nat_lt, Some, slice_get, refl, ◌∙◌, arith}
use Rattle.std.proofs.lemmas.Bool.{and_right, or_parts}
use Rattle.std.proofs.lemmas.Bool.Decides.{nat_tests}
use Rattle.std.specs.List.{list_any}
use Rattle.conn_machine.specs.declared.row.Place.{Place}
use Rattle.conn_machine.specs.declared.row.Place.TheVariants.{Vacant, Spent, Held, Parked, Queued, Working}
use Rattle.conn_machine.specs.declared.row.Row.{Row}
use Rattle.conn_machine.specs.declared.state.State.{State}
use Rattle.conn_machine.specs.Rows.{carried_count, is_carried_at, is_carried_by, is_held, is_lingering, is_parked, is_unused, is_with_a_pass}
use Rattle.conn_machine.specs.Sound.{IsSound}
use Rattle.conn_machine.specs.States.{child_of, is_signalled}
use Rattle.board_book.specs.Finds.{has_to_be_drained, is_due}
use Rattle.board_book.specs.AtRest.{IsAtRest}
use Rattle.listener.specs.Patient.{NoneSignalled}
use Rattle.rounds.proofs.ListenLemmas.{count-cons}

not-carried : (k : ℕ) (r : Row) → is_with_a_pass r.place ≡ false → is_carried_by k r ≡ false
not-carried k r none = and_right (r.child == k) (is_carried_at r.place) (or_parts (is_held r.place) (is_carried_at r.place) none).1

-- no worker carries a row where no pass has one
none-carried : (rows : List Row) (k : ℕ) → list_any (λ r. is_with_a_pass r.place) rows ≡ false → carried_count rows k ≡ 0
none-carried [] k none = refl
none-carried (r ∷ rows) k none =
    let parts = or_parts (is_with_a_pass r.place) (list_any (λ (x : Row). is_with_a_pass x.place) rows) none in
    let rest : carried_count rows k ≡ 0 = none-carried rows k parts.1 in
    count-cons (is_carried_by k) r rows ∙ rw (not-carried k r parts.0) (omega (arith, rest))

parked-used : (p : Place) → is_parked p ≡ true → not (is_unused p) ≡ true
parked-used Vacant parked = absurd (cc parked)
parked-used Spent parked = absurd (cc parked)
parked-used Held parked = absurd (cc parked)
parked-used (Parked kind) parked = refl
parked-used Queued parked = absurd (cc parked)
parked-used (Working cell phase) parked = absurd (cc parked)

-- the child of a row that waits has a worker
has-worker : (s : State) (slot : ℕ) (r : Row) → IsSound s → slice_get s.rows slot ≡ Some r → is_parked r.place ≡ true
    → 1 ≤ (child_of s r).shape.threads
has-worker s slot r sound at parked =
    let owner = sound.owners slot r at (parked-used r.place parked) in
    let bounds = sound.children.shapes r.child owner.there in
    grind (arith, nat_tests)

signalled-by : (s : State) (slot : ℕ) (r : Row) (signalled lingers : Bool) → is_signalled s slot ≡ signalled → is_lingering r ≡ lingers → is_parked r.place ≡ true
    → carried_count s.rows r.child ≡ 0 → 1 ≤ (child_of s r).shape.threads → is_due s slot r ≡ false → has_to_be_drained s slot r ≡ false
    → is_signalled s slot ≡ false
signalled-by s slot r false lingers is l parked none works due drained = is
signalled-by s slot r true true is l parked none works due drained = absurd (cc (is, l, parked, drained))
signalled-by s slot r true false is l parked none works due drained =
    let free : nat_lt (carried_count s.rows r.child) (child_of s r).shape.threads ≡ true = grind (arith, nat_tests) in
    absurd (cc (is, l, parked, free, due))

pub none-signalled : (s : State) → IsSound s → IsAtRest s → NoneSignalled s
none-signalled s sound rest slot r at parked =
    let quiet : list_any (λ (x : Row). is_with_a_pass x.place) s.rows ≡ false = grind (arith, nat_tests, rest.quiet) in
    signalled-by s slot r (is_signalled s slot) (is_lingering r) refl refl parked (none-carried s.rows r.child quiet) (has-worker s slot r sound at parked)
    (rest.served slot r at) (rest.drained slot r at)
