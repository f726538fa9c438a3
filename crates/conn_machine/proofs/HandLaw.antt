-- The connections of passes, in the words of the table: through histories and folds, and that without one nothing is in hand.
use Rattle.std.proofs.Common.{◌≡◌, ℕ, ◌<◌, ◌≤◌, Bool, true, false, ◌&&◌, ◌==◌, not, List, Option, Some, None, nat_lt, slice_get, refl, ap, ◌∙◌, eq-eqb, arith}
use Rattle.std.specs.Prelude.{if◌then◌else◌}
use Rattle.std.specs.Option.{option_map_or}
use Rattle.std.proofs.lemmas.Bool.Decides.{nat_tests}
use Rattle.mpm_base.specs.declared.conn.ConnName.{ConnName}
use Rattle.conn_machine.specs.declared.row.Place.{Place}
use Rattle.conn_machine.specs.declared.row.Place.TheVariants.{Vacant, Spent, Held, Parked, Queued, Working}
use Rattle.conn_machine.specs.declared.row.Row.{Row}
use Rattle.conn_machine.specs.declared.event.Entry.{Entry}
use Rattle.conn_machine.specs.declared.folded.Folded.{Folded}
use Rattle.conn_machine.specs.declared.state.State.{State}
use Rattle.conn_machine.specs.Folds.{HasPlacesFor, fold_of, opening_record}
use Rattle.conn_machine.specs.Made.{AreMade, AreOfPasses, HasSeen, IsOpened}
use Rattle.conn_machine.specs.Passes.{EachHasItsOwn, HasNoneInHand}
use Rattle.conn_machine.specs.Rows.{is_live, is_live_as, is_unused, is_with_a_pass, live_row, row_where}
use Rattle.conn_machine.specs.Runs.{after, first_row, row_from}
use Rattle.conn_machine.proofs.FoldLemmas.{goes_on, no_row_at_first, no_row_behind}
use Rattle.conn_machine.proofs.HistoryLemmas.{row_by, row_none, seen_same}
use Rattle.conn_machine.proofs.OwnRows.{IsMetAt, IsOwned, met, none_some, opened_owned, owned, row_stays, rows_from, same_owned, some_is}

pub hand_live : (place : Place) → is_with_a_pass place ≡ true → not (is_unused place) ≡ true
hand_live Vacant is = absurd (cc)
hand_live Spent is = absurd (cc)
hand_live Held is = refl
hand_live (Parked kind) is = refl
hand_live Queued is = refl
hand_live (Working cell phase) is = refl

-- a row in some pass's hand is live under the name that the pass has
live_in_hand : (rows : List Row) (name : ConnName) (r : Row) → slice_get rows name.slot ≡ Some r → is_with_a_pass r.place ≡ true → r.life ≡ name.life
    → live_row rows name ≡ Some r
live_in_hand rows name r at hand life =
    let live : is_live r ≡ true = hand_live r.place hand in
    let same : (r.life == name.life) ≡ true = eq-eqb r.life name.life life in
    let is : is_live_as name r ≡ true = ap (λ b. b && (r.life == name.life)) live ∙ same in
    ap (row_where (is_live_as name)) at ∙ ap (λ b. if b then Some r else None) is

-- ## In the words of the table, and back

pub to_own : (s : State) (has : ℕ → Option ConnName) → IsOwned s.rows has → EachHasItsOwn s has
to_own s has o = record { live = live; apart = o.apart; someone = someone }
  where
    live : (p : ℕ) (name : ConnName) → has p ≡ Some name → (r : Row) × (live_row s.rows name ≡ Some r) × (is_with_a_pass r.place ≡ true)
    live p name is = let h = o.there p name is in (h.0, live_in_hand s.rows name h.0 h.1 h.2 h.3, h.2)

    someone : (slot : ℕ) (r : Row) → slice_get s.rows slot ≡ Some r → is_with_a_pass r.place ≡ true
        → (p : ℕ) × (name : ConnName) × (has p ≡ Some name) × (name.slot ≡ slot) × (live_row s.rows name ≡ Some r)
    someone slot r at hand =
        let who = o.someone slot r at hand in
        let h = o.there who.0 who.1 who.2 in
        let at' : slice_get s.rows who.1.slot ≡ Some r = ap (slice_get s.rows) who.3 ∙ at in
        let life : r.life ≡ who.1.life = cc (h.1, at', h.3) in
        (who.0, who.1, who.2, who.3, live_in_hand s.rows who.1 r at' hand life)

pub from_own : (s : State) (has : ℕ → Option ConnName) → EachHasItsOwn s has → IsOwned s.rows has
from_own s has own = record { there = there; apart = own.apart; someone = someone }
  where
    there : (p : ℕ) (name : ConnName) → has p ≡ Some name → (r : Row) × (slice_get s.rows name.slot ≡ Some r) × (is_with_a_pass r.place ≡ true) × (r.life ≡ name.life)
    there p name is =
        let h = own.live p name is in
        let m : IsMetAt (λ r. true) s.rows name = met (λ r. true) s.rows name (ap (λ (o : Option Row). option_map_or (λ (r : Row). true) o false) h.1) in
        let same : m.row ≡ h.0 = some_is (live_row s.rows name) m.row h.0 m.live h.1 in
        (m.row, m.at, ap (λ (r : Row). is_with_a_pass r.place) same ∙ h.2, m.life)

    someone : (slot : ℕ) (r : Row) → slice_get s.rows slot ≡ Some r → is_with_a_pass r.place ≡ true
        → (p : ℕ) × (name : ConnName) × (has p ≡ Some name) × (name.slot ≡ slot)
    someone slot r at hand = let who = own.someone slot r at hand in (who.0, who.1, who.2, who.3)

-- ## Through histories and folds

pub opened_own : (s : State) (passes : ℕ) → IsOpened s → EachHasItsOwn s (first_row (opening_record passes))
opened_own s passes opened = to_own s _ (opened_owned s _ opened (no_row_at_first passes))

pub made_own : (base : State) (f : Folded) (history : List Entry) → EachHasItsOwn base (first_row f) → AreMade base f history
    → EachHasItsOwn (after base history) (λ p. row_from f p history)
made_own base f history own made =
    to_own (after base history) (rows_from f history) (owned base f history (from_own base (first_row f) own) made)

pub folded_own : (passes : ℕ) (base : State) (f : Folded) (history : List Entry) (ended : List (List ℕ)) → HasPlacesFor passes f
    → AreOfPasses passes history → EachHasItsOwn base (first_row f) → AreMade base f history
    → EachHasItsOwn (after base history) (first_row (fold_of base history ended f))
folded_own passes base f history ended places few own made =
    let s = after base history in
    to_own s (first_row (fold_of base history ended f))
    (same_owned s.rows s.rows (rows_from f history) (first_row (fold_of base history ended f)) refl
    (λ p. (goes_on passes base f history ended p places few).row) (owned base f history (from_own base (first_row f) own) made))

-- ## Nothing in hand

-- where no pass has a connection, none is in hand
pub none_in_hand : (s : State) (has : ℕ → Option ConnName) → EachHasItsOwn s has → ((p : ℕ) → has p ≡ None) → HasNoneInHand s
none_in_hand s has own none = record { each = λ slot r at. by slot r (is_with_a_pass r.place) refl at }
  where
    by : (slot : ℕ) (r : Row) (b : Bool) → is_with_a_pass r.place ≡ b → slice_get s.rows slot ≡ Some r → is_with_a_pass r.place ≡ false
    by slot r true hand at =
        let who = own.someone slot r at hand in
        none_some (has who.0) who.1 (none who.0) who.2
    by slot r false hand at = hand

-- it suffices that those have none that made entries
pub none_in_hand_of : (passes : ℕ) (base : State) (f : Folded) (history : List Entry) → HasPlacesFor passes f → AreOfPasses passes history
    → EachHasItsOwn base (first_row f) → AreMade base f history → ((p : ℕ) → p < passes → row_from f p history ≡ None)
    → HasNoneInHand (after base history)
none_in_hand_of passes base f history places few own made none =
    none_in_hand (after base history) (rows_from f history) (made_own base f history own made) (λ p. by p (nat_lt p passes) refl)
  where
    by : (p : ℕ) (b : Bool) → nat_lt p passes ≡ b → row_from f p history ≡ None
    by p true less = none p (grind (arith, nat_tests))
    by p false less =
        let past : passes ≤ p = grind (arith, nat_tests) in
        row_none f p history (few p past) ∙ no_row_behind passes f p places past

-- ## While others go on

pub name_stays : (f : Folded) (p : ℕ) (seen history : List Entry) → HasSeen p seen history → row_from f p history ≡ row_from f p seen
name_stays f p seen history behind = row_by f p history seen (seen_same p seen history behind)

pub own_row_stays : (base : State) (f : Folded) (p : ℕ) (seen history : List Entry) (name : ConnName) → EachHasItsOwn base (first_row f)
    → AreMade base f history → HasSeen p seen history → row_from f p seen ≡ Some name
    → slice_get (after base history).rows name.slot ≡ slice_get (after base seen).rows name.slot
own_row_stays base f p seen history name own made behind is =
    row_stays base f p seen history name (from_own base (first_row f) own) made behind is
