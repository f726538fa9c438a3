-- What the listener sees of a table, and of an idle word.
use Rattle.std.proofs.Common.{◌≡◌, ◌==◌, ℕ, Bool, true, false, not, ◌||◌, List, [], ◌∷◌, Option, None, Some, is_some, slice_get, zero, suc, ◌++◌, refl, sym, ap, subst, ◌∙◌}
use Rattle.std.specs.List.{list_any}
use Rattle.atomic_table.specs.Table.{Me}
use Rattle.mpm_base.specs.declared.conn.ConnName.{ConnName}
use Rattle.conn_machine.specs.declared.event.Entry.{Entry}
use Rattle.conn_machine.specs.declared.row.Place.{Place}
use Rattle.conn_machine.specs.declared.row.Place.TheVariants.{Vacant, Spent, Held, Parked, Queued, Working}
use Rattle.conn_machine.specs.declared.row.Row.{Row}
use Rattle.conn_machine.specs.declared.state.State.{State}
use Rattle.conn_machine.specs.BetweenTurns.{QuietTablesAreTheListeners}
use Rattle.conn_machine.specs.Folds.{may_fold, opening_record}
use Rattle.conn_machine.specs.Made.{AreMade, HasSeen}
use Rattle.conn_machine.specs.Passes.{EachHasItsOwn}
use Rattle.conn_machine.specs.Rows.{is_live, is_parked, is_unused, is_with_a_pass}
use Rattle.conn_machine.specs.Runs.{entries_of, first_row}
use Rattle.table_rule.specs.declared.view.Origin.{Origin}
use Rattle.table_rule.specs.declared.view.View.{View}
use Rattle.table_rule.specs.Ledgers.{IsSplit}
use Rattle.board_lock.specs.Passes.{GaveBack, TookTurn}
use Rattle.idle_workers.specs.Found.{FoundIdle}
use Rattle.board.specs.Board.{SeenBoard, folded_board}
use Rattle.board_book.specs.Finds.{FindsRow, is_quiet, is_waiting}
use Rattle.board.specs.Ledger.{ledger_of}
use Rattle.worker_group.proofs.ServeLemmas.{alive}
use Rattle.worker_group.proofs.StartLemmas.{lives}
use Rattle.board_turns.specs.Books.{state_of}
use Rattle.board_turns.specs.Rests.{TurnsRestOn}
use Rattle.board_turns.specs.Turns.{IsListener}
use Rattle.listener_turns.specs.Looks.{LooksIdle}
use Rattle.board_book.specs.AtRest.{IsAtRest}

-- ## Whether a connection is live

or_true : (b : Bool) → (b || true) ≡ true
or_true true = refl
or_true false = refl

not_false : (b : Bool) → not b ≡ false → b ≡ true
not_false true at = refl
not_false false at = absurd (cc)

not_true : (b : Bool) → not b ≡ true → b ≡ false
not_true true at = absurd (cc)
not_true false at = refl

-- a row that is in hand is live
live_in_hand : (p : Place) → is_with_a_pass p ≡ true → not (is_unused p) ≡ true
live_in_hand Vacant hand = absurd (cc)
live_in_hand Spent hand = absurd (cc)
live_in_hand Held hand = refl
live_in_hand (Parked kind) hand = absurd (cc)
live_in_hand Queued hand = refl
live_in_hand (Working cell phase) hand = refl

busy_cons : (r : Row) (rows : List Row) (hand : Bool) → is_with_a_pass r.place ≡ hand → (hand || list_any (λ r. is_with_a_pass r.place) rows) ≡ true
    → (list_any (λ r. is_with_a_pass r.place) rows ≡ true → list_any is_live rows ≡ true) → list_any is_live (r ∷ rows) ≡ true
busy_cons r rows true is any rest = rw (live_in_hand r.place is) refl
busy_cons r rows false is any rest = rw (rest any) (or_true (is_live r))

busy_rows : (rows : List Row) → list_any (λ r. is_with_a_pass r.place) rows ≡ true → list_any is_live rows ≡ true
busy_rows [] any = absurd (cc)
busy_rows (r ∷ rows) any = busy_cons r rows (is_with_a_pass r.place) refl any (busy_rows rows)

pub busy_live : (s : State) (quiet : Bool) → quiet ≡ is_quiet s → quiet ≡ false → not quiet ≡ list_any is_live s.rows
busy_live s quiet is busy = ap not busy ∙ sym (busy_rows s.rows (not_false (list_any (λ (r : Row). is_with_a_pass r.place) s.rows) (sym is ∙ busy)))

-- no pass has a row where none is in hand
none_any : {X : Type 0} (test : X → Bool) (xs : List X) → list_any test xs ≡ false → (i : ℕ) (x : X) → slice_get xs i ≡ Some x → test x ≡ false
none_any test [] none i x at = absurd (cc)
none_any test (y ∷ ys) none zero x at =
    let same : y ≡ x = cc in
    subst (λ z. test z ≡ false) same (or_left (test y) (list_any test ys) none)
  where
    or_left : (a b : Bool) → (a || b) ≡ false → a ≡ false
    or_left true b none = absurd (cc)
    or_left false b none = refl
none_any test (y ∷ ys) none (suc i) x at = none_any test ys (or_right (test y) (list_any test ys) none) i x at
  where
    or_right : (a b : Bool) → (a || b) ≡ false → b ≡ false
    or_right true b none = absurd (cc)
    or_right false b none = none

idle_place : (p : Place) → is_with_a_pass p ≡ false → is_parked p ≡ false → not (is_unused p) ≡ false
idle_place Vacant hand parked = refl
idle_place Spent hand parked = refl
idle_place Held hand parked = absurd (cc)
idle_place (Parked kind) hand parked = absurd (cc)
idle_place Queued hand parked = absurd (cc)
idle_place (Working cell phase) hand parked = absurd (cc)

idle_each : (rows : List Row) → ((slot : ℕ) (r : Row) → slice_get rows slot ≡ Some r → is_with_a_pass r.place ≡ false)
    → ((slot : ℕ) (r : Row) → slice_get rows slot ≡ Some r → is_parked r.place ≡ false) → list_any is_live rows ≡ false
idle_each [] hand parked = refl
idle_each (r ∷ rows) hand parked =
    rw (
      idle_place r.place (hand 0 r refl) (parked 0 r refl),
      idle_each rows (λ slot x at. hand (suc slot) x at) (λ slot x at. parked (suc slot) x at),
    ) refl

-- some row is live where that of a slot is
live_at : (rows : List Row) (slot : ℕ) (r : Row) → slice_get rows slot ≡ Some r → is_live r ≡ true → list_any is_live rows ≡ true
live_at [] slot r at live = absurd (cc)
live_at (x ∷ rows) zero r at live =
    let same : r ≡ x = cc in
    rw (subst (λ (y : Row). is_live y ≡ true) same live) refl
live_at (x ∷ rows) (suc slot) r at live = rw (live_at rows slot r at live) (or_true (is_live x))

in_no_hand : (s : State) → is_quiet s ≡ true → (slot : ℕ) (r : Row) → slice_get s.rows slot ≡ Some r → is_with_a_pass r.place ≡ false
in_no_hand s quiet slot r at =
    none_any (λ (x : Row). is_with_a_pass x.place) s.rows (not_true (list_any (λ (x : Row). is_with_a_pass x.place) s.rows) quiet) slot r at

-- where nobody has one a connection is live exactly where one was found that waits
pub found_live : (s : State) (o : Option ConnName) (quiet found : Bool) → quiet ≡ is_quiet s → quiet ≡ true → FindsRow is_waiting s o → found ≡ is_some o
    → found ≡ list_any is_live s.rows
found_live s None quiet found at rest finds is = is ∙ sym (idle_each s.rows (in_no_hand s (sym at ∙ rest)) finds)
found_live s (Some name) quiet found at rest finds is =
    let live = lives (is_waiting name.slot) s.rows name finds in
    let there = alive s.rows name live.row live.found in
    is ∙ sym (live_at s.rows name.slot live.row there.at there.live)

-- ## The idle word

-- behind a look that found all at rest nobody but the listener adds an entry
pub rest_stays : QuietTablesAreTheListeners → (v : View) (history : List Entry) → EachHasItsOwn v.origin.state (first_row (opening_record v.origin.passes))
    → v.who.number ≡ 0 → AreMade v.origin.state (opening_record v.origin.passes) history → HasSeen v.who.number v.seen history → IsAtRest (state_of v)
    → history ≡ v.seen
rest_stays law v history own number made seen rest =
    law v.origin.state (opening_record v.origin.passes) v.seen history own made
    (seen.0, seen.1, subst (λ p. entries_of p seen.0 ≡ []) number seen.2)
    (record { each = in_no_hand (state_of v) rest.quiet }) rest.served

pub looks_idle : QuietTablesAreTheListeners → (child threads count : ℕ) (old new : View) → old.who.number ≡ 0 → FoundIdle child old count new
    → LooksIdle child threads old (count == threads) new
looks_idle law child threads count old new number looked = record {
  count = count;
  looked = looked;
  answer = refl;
  still = λ own rest. rest_stays law old new.seen own number looked.made looked.seen rest;
}

-- pass 0 stays pass 0 by a look at an idle word
pub idle_listener : {S : Type 0} (child count : ℕ) (old new : Me S View) → TurnsRestOn → new.1 ≡ old.1 → FoundIdle child old.0 count new.0 → IsListener old → IsListener new
idle_listener child count old new rests hand found is =
    let origin : new.0.origin ≡ old.0.origin = ap (λ (q : View). q.origin) found.looked.0 in
    let first = opening_record old.0.origin.passes in
    let others : HasSeen 0 old.0.seen new.0.seen =
    (found.seen.0, found.seen.1, subst (λ (p : ℕ). entries_of p found.seen.0 ≡ []) is.number found.seen.2) in
    record {
      turnless = record {
        hand = hand ∙ is.turnless.hand;
        turn = ap (λ (q : View). q.turn) found.looked.0 ∙ is.turnless.turn;
      };
      number = ap (λ (q : View). q.who.number) found.looked.0 ∙ is.number;
      made = subst (λ (o : Origin). AreMade o.state (opening_record o.passes) new.0.seen) (sym origin) found.made;
      row_is =
          ap (λ (q : View). q.row) found.looked.0 ∙ is.row_is
          ∙ sym (rests.opens old.0.origin.passes 0 old.0.seen) ∙ sym (rests.stays first 0 old.0.seen new.0.seen others)
          ∙ rests.opens old.0.origin.passes 0 new.0.seen;
    }
